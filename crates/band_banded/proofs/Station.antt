-- Banding in two settings that differ in their limits alone: where both take the curves and the leaves, they answer and write the same. So it is of
-- the bench station and a caller who gives lists; and 19 is for the station alone.
use mathlib.Core.Path.{◌≡◌, refl, sym, ◌∙◌, ap}
use mathlib.Core.List.{List}
use Prim.Native.Nat.{ℕ, ◌*◌, ◌≤◌, ◌<◌}
use native.Mathlib.Nat.{le_refl}
use native.Mathlib.Omega.{arith}
use lib.Dec.{lit≤}
use lib.ListN.{length}
use lib.IntN.{ℤ}
use Rattle.setting.specs.Setting.{Setting, relimited, lists, station, texts, record_length}
use Rattle.refusals.specs.declared.Refusal.TheVariants.{TooManyLeaves}
use Rattle.curve_nodes.specs.declared.Curve.{Curve}
use Rattle.outline.proofs.Accepted.{outlined_within, accepted_most}
use Rattle.band_passes.specs.Leaves.{leaves_of, nodes_of}
use Rattle.band_passes.specs.FirstWide.{AllMeet}
use Rattle.band_passes.proofs.Counting.{few_leaves}
use Rattle.band_passes.proofs.Wide.{none_wide}
use Rattle.std.specs.Prelude.{Err}
use Rattle.band_banded.specs.Banding.{done, written_given, banded, written}
use Rattle.band_banded.specs.Outcomes.{Faultless, Report}
use Rattle.band_banded.specs.Station.{StationAgrees}
use Rattle.band_banded.proofs.ByPieces.{listed, all_records_same, wide_same, leaves_same, nodes_same}
use Rattle.band_banded.proofs.Theorems.{many_exactly, never_many, done_exactly, done_limits}

-- ---- what is accepted in one setting, in another of the same pieces that takes so many curves and leaves
module _ (σ : Setting) (most leaves : ℕ) (T : ℤ) (ns : List ℤ) where
  abbrev other : Setting
  other = relimited σ most leaves

  pub faultless_again : {cs : List Curve} → Faultless σ T ns cs → length cs ≤ most → Faultless other T ns cs
  faultless_again {cs} f h = record { pieces = f.pieces; tolerance = f.tolerance; outline = outlined_within σ.most most σ.pieces ns cs f.outline h }

  meet_again : {cs : List Curve} → AllMeet σ T cs → AllMeet other T cs
  meet_again {cs} h = (none_wide other T 0 cs).0 (sym (wide_same σ most leaves T 0 cs) ∙ (none_wide σ T 0 cs).1 h)

  -- with its l leaves, wherever these have room
  report_again : (cs : List Curve) {room l : ℕ} → AllMeet σ T cs → leaves_of σ T cs ≡ l → l ≤ leaves → record_length σ * l ≤ room
      → Report other T cs room (length cs) l (nodes_of σ T cs)
  report_again cs {room} {l} m e taken enough =
      let same : leaves_of other T cs ≡ l = sym (leaves_same σ most leaves T cs) ∙ e in
      record {
        meet = meet_again m;
        taken = omega (arith, same);
        enough = omega (arith, ap (λ n. record_length σ * n) same);
        curves = refl;
        leaves = same;
        nodes = sym (nodes_same σ most leaves T cs);
      }

  module _ {a b c : ℕ} (few : a ≤ most) (fewer : b ≤ leaves) where
    pub done_again : (room : ℕ) → banded σ T ns room ≡ done a b c → banded other T ns room ≡ done a b c
    done_again room e =
        let h = (done_exactly σ T ns room a b c).0 e in
        let r = h.2 in
        let enough : record_length σ * b ≤ room = omega (arith, r.enough, ap (λ n. record_length σ * n) r.leaves) in
        (done_exactly other T ns room a b c).1 (
          h.0,
          faultless_again h.1 (omega (arith, r.curves)),
          rw (r.curves, r.nodes) at (report_again h.0 {l = b} r.meet r.leaves fewer enough),
        )

    pub written_again : (old : List ℤ) → banded σ T ns (length old) ≡ done a b c → written σ T ns old ≡ written other T ns old
    unfolding written_given
    written_again old e =
        let h = (done_exactly σ T ns (length old) a b c).0 e in
        let f = faultless_again h.1 (omega (arith, h.2.curves)) in
        rw (e, done_again (length old) e, h.1.outline, f.outline, all_records_same σ most leaves T 0)

-- ---- what a setting of no more curves accepts, from a caller who gives lists
module _ (σ : Setting) (few : σ.most ≤ (listed σ).most) (T : ℤ) (ns : List ℤ) where
  pub faultless_listed : {cs : List Curve} → Faultless σ T ns cs → Faultless (listed σ) T ns cs
  faultless_listed {cs} f =
      faultless_again σ (listed σ).most (listed σ).leaves T ns f (omega (arith, few, accepted_most σ.most σ.pieces ns cs f.outline))

  pub done_listed : (room : ℕ) {a b c : ℕ} → banded σ T ns room ≡ done a b c → banded (listed σ) T ns room ≡ done a b c
  done_listed room {a} {b} {c} e =
      let h = done_limits σ T ns room a b c e in
      done_again σ (listed σ).most (listed σ).leaves T ns (omega (arith, few, h.0)) (omega (arith, few, h.0, h.2)) room e

  pub written_listed : (old : List ℤ) {a b c : ℕ} → banded σ T ns (length old) ≡ done a b c → written σ T ns old ≡ written (listed σ) T ns old
  written_listed old {a} {b} {c} e =
      let h = done_limits σ T ns (length old) a b c e in
      written_again σ (listed σ).most (listed σ).leaves T ns (omega (arith, few, h.0)) (omega (arith, few, h.0, h.2)) old e

-- ---- 19 is neither for lists nor for texts
module _ (T : ℤ) (ns : List ℤ) (room l : ℕ) where
  pub lists_never_many : (m : ℕ) → banded (lists m) T ns room ≡ Err (TooManyLeaves l) → ⊥
  lists_never_many m = never_many (lists m) T ns room (lit≤ tt) l

  pub texts_never_many : banded texts T ns room ≡ Err (TooManyLeaves l) → ⊥
  texts_never_many = never_many texts T ns room (lit≤ tt) l

-- ---- 19 of the station, and lists that have room for its leaves
module _ (m : ℕ) (T : ℤ) (ns : List ℤ) (room l : ℕ) where
  abbrev room_for : ℕ
  room_for = record_length (lists m) * l

  many_listed : banded (station m) T ns room ≡ Err (TooManyLeaves l)
      → (a : ℕ) × (c : ℕ) × (banded (lists m) T ns room_for ≡ done a l c) × (a ≤ 64) × (128 < l)
  many_listed e =
      let h = (many_exactly (station m) T ns room l).0 e in
      let cs = h.0 in
      let few = accepted_most 64 m ns cs h.1.outline in
      let taken : l ≤ (lists m).leaves = omega (arith, h.2.leaves, few_leaves (station m) T cs) in
      let r = report_again (station m) (lists m).most (lists m).leaves T ns cs h.2.meet h.2.leaves taken (le_refl room_for) in (
        length cs,
        nodes_of (station m) T cs,
        (done_exactly (lists m) T ns room_for (length cs) l (nodes_of (station m) T cs)).1 (cs, faultless_listed (station m) (lit≤ tt) T ns h.1, r),
        few,
        omega (arith, h.2.more, h.2.leaves),
      )

  listed_many : (a c : ℕ) → banded (lists m) T ns room_for ≡ done a l c → a ≤ 64 → 128 < l → banded (station m) T ns room ≡ Err (TooManyLeaves l)
  listed_many a c e few more =
      let h = (done_exactly (lists m) T ns room_for a l c).0 e in
      let same = sym (leaves_same (lists m) 64 128 T h.0) ∙ h.2.leaves in
      (many_exactly (station m) T ns room l).1 (
        h.0,
        faultless_again (lists m) 64 128 T ns h.1 (omega (arith, h.2.curves)),
        record { meet = meet_again (lists m) 64 128 T ns h.2.meet; more = omega (arith, same); leaves = same },
      )

pub station_agrees : (m : ℕ) (T : ℤ) (ns old : List ℤ) → StationAgrees m T ns old
station_agrees m T ns old = record {
  accepts = λ a b c. (
    λ e. let h = done_limits (station m) T ns (length old) a b c e in (done_listed (station m) (lit≤ tt) T ns (length old) e, h.0, h.1),
    λ h. done_again (lists m) 64 128 T ns h.1 h.2 (length old) h.0,
  );
  writes = λ a b c. written_listed (station m) (lit≤ tt) T ns old;
  refuses = λ l. (many_listed m T ns (length old) l, λ h. listed_many m T ns (length old) l h.0 h.1 h.2 h.3 h.4);
}
