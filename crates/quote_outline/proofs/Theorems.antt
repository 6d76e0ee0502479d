-- The quote for an outline: over the records that banding wrote a quote refuses nothing, and it is the total of what the curves cost, each by its
-- leaves.
use mathlib.Core.Path.{◌≡◌, sym, ◌∙◌, ap}
use mathlib.Core.Bool.{Bool, true, false}
use mathlib.Core.List.{List}
use mathlib.Core.Option.{none}
use Prim.Native.Nat.{ℕ, ◌*◌, ◌/◌, ◌≤◌, ◌<◌}
use native.Mathlib.Nat.{mul-div_right}
use native.Mathlib.Omega.{arith}
use borrow.Author.Tests.{le-ltb}
use lib.Dec.{lit≤}
use lib.ListN.{length, take}
use lib.IntN.{ℤ}
use Rattle.std.specs.Prelude.{Ok}
use Rattle.setting.specs.Setting.{Setting, pieces_fine, lists_of, lists, splines, station, record_length}
use Rattle.outline.specs.Checks.{Outlined, outlined}
use Rattle.outline_splines.specs.Splines.{splined}
use Rattle.band_records.specs.Ranges.{SoundList}
use Rattle.band_passes.specs.Leaves.{curves_of}
use Rattle.band_banded.specs.Banding.{done, band_given, written_given, banded, written, banded_spline, written_spline}
use Rattle.band_banded.proofs.Given.{Given, outline_given, spline_given}
use Rattle.band_banded.proofs.Theorems.{done_given, limits_given, records_given, some_given, sound_given}
use Rattle.band_banded.proofs.Station.{done_listed, written_listed}
use Rattle.quote_price.specs.Price.{records_in, costs, total}
use Rattle.quote_price.specs.Quote.{most_records, quote_fault, quoted}
use Rattle.quote_price.proofs.Faults.{accepted}
use Rattle.quote_price.proofs.Alike.{quotes_alike}
use Rattle.quote_outline.specs.Curves.{curve_costs}
use Rattle.quote_outline.proofs.CurveCounts.{costs_of_curves}
use Rattle.demand_3.proofs.Passing.{length_fine_law, no_bad_number}

-- ---- b sound records, not too many, pass every check
sound_passes : (σ : Setting) (b : ℕ) (rs : List ℤ) → pieces_fine σ.pieces ≡ true → 0 < b → b ≤ most_records → SoundList σ b rs
    → quote_fault σ rs ≡ none
unfolding quote_fault
sound_passes σ b rs p some few s =
    let e : records_in σ rs ≡ b = ap (λ n. n / record_length σ) s.whole ∙ mul-div_right b (omega arith) in
    rw (
      quote_fault,
      p,
      length_fine_law σ (length rs) b some s.whole,
      le-ltb most_records (records_in σ rs) (omega (arith, e, few)),
      no_bad_number s,
    )

-- ---- what is given, control values that are sixths or not
module _ (m : ℕ) (sixths : Bool) (T : ℤ) {o : Outlined} (given : Given (lists_of m sixths) o) (old : List ℤ) (a b c : ℕ) where
  abbrev σ : Setting
  σ = lists_of m sixths

  pub quote_given : band_given σ T o (length old) ≡ done a b c
      → quoted (lists m) (take (record_length σ * b) (written_given σ T o old)) ≡ Ok (total (curve_costs σ T (curves_of o)))
  quote_given e =
      let h = (done_given σ T given (length old) a b c).0 e in
      let cs = h.0 in
      let f = h.1 in
      let r = h.2 in
      let limits = limits_given σ T given (length old) a b c e in
      let rs = take (record_length σ * b) (written_given σ T o old) in
      sym (quotes_alike m sixths rs) ∙ sym (accepted σ rs
      (sound_passes σ b rs f.pieces (some_given σ T given old f r) limits.1 (sound_given σ T given old f r))
      (ap total (ap (curve_costs σ T) (ap curves_of f.outline)
      ∙ sym (ap (costs σ) (records_given σ T given old f r) ∙ costs_of_curves σ T cs (omega (arith, r.curves, limits.0))))))

-- ---- outlines
pub quote_of_outline : (m : ℕ) (T : ℤ) (ns old : List ℤ) (a b c : ℕ) → banded (lists m) T ns (length old) ≡ done a b c
    → quoted (lists m) (take (record_length (lists m) * b) (written (lists m) T ns old))
    ≡ Ok (total (curve_costs (lists m) T (curves_of (outlined 4096 m ns))))
quote_of_outline m T ns old = quote_given m false T (outline_given (lists m) ns) old

-- ---- B-splines
pub quote_of_spline : (m : ℕ) (T : ℤ) (ns old : List ℤ) (a b c : ℕ) → banded_spline m T ns (length old) ≡ done a b c
    → quoted (lists m) (take (record_length (lists m) * b) (written_spline m T ns old))
    ≡ Ok (total (curve_costs (splines m) T (curves_of (splined ns))))
quote_of_spline m T ns old = quote_given m true T (spline_given m ns) old

-- ---- the bench station, whose records are those of lists
pub quote_of_station : (m : ℕ) (T : ℤ) (ns old : List ℤ) (a b c : ℕ) → banded (station m) T ns (length old) ≡ done a b c
    → quoted (lists m) (take (record_length (lists m) * b) (written (station m) T ns old))
    ≡ Ok (total (curve_costs (lists m) T (curves_of (outlined 4096 m ns))))
quote_of_station m T ns old a b c e =
    rw (written_listed (station m) (lit≤ tt) T ns old e)
    (quote_of_outline m T ns old a b c (done_listed (station m) (lit≤ tt) T ns (length old) e))
