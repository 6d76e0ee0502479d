-- The checks before the walk, 18, 1 to 6, 17, 20, 21, 24 and 25, refuse with their own numbers: so the answer of banding shows whether a list passed
-- them.
use mathlib.Core.Path.{◌≡◌, refl, sym, ap, subst}
use mathlib.Core.Bool.{Bool, true, false, not, ◌&&◌}
use mathlib.Core.Logic.{◌⊎◌, inl, inr, ⊎_elim}
use mathlib.Core.List.{List, [], ◌∷◌}
use mathlib.Core.Option.{Option, none, some}
use Prim.Native.Nat.{ℕ, zero, suc, ◌≤◌}
use native.Mathlib.Omega.{arith}
use lib.Dec.{ltb, eqb, lit≤}
use lib.ListN.{length, get_or}
use lib.IntN.{ℤ}
use lib.Ieee.{Float, nan}
use Rattle.setting.specs.Setting.{Setting, pieces_fine}
use Rattle.refusals.specs.declared.Refusal.{Refusal}
use Rattle.refusals.specs.declared.Refusal.TheVariants.{Tolerance, Degree, CutShort, Coordinate, TooManyCurves, EmptyOutline, Gap, Pieces, DegreePieces}
use Rattle.refusals.specs.declared.Refusal.TheVariants.{NotWhole, SplineLength, SplineCoordinate}
use Rattle.refusals.specs.Refusals.{number_of, spot_of}
use Rattle.curve_nodes.specs.declared.Curve.{Curve}
use Rattle.outline.specs.Curves.{next_at, curve_at}
use Rattle.outline.specs.Faults.{fault_at}
use Rattle.outline.proofs.Faultless.{Finding, no_degree, few_pieces, cut_short, beyond, gap, finding}
use Rattle.outline.specs.Checks.{Outlined, curves, faulty, tolerance_fine, with_curve, outline_from, outlined}
use Rattle.std.specs.Prelude.{Err}
use Rattle.binary64.specs.Read.{whole_of}
use Rattle.outline_binary64.specs.Lists.{wholes, outlined_binary64}
use Rattle.outline_binary64.proofs.Named.{whole_fault}
use Rattle.outline_splines.specs.Splines.{splines_from, spline_count, spline_length_fine, first_far, splined}
use Rattle.band_banded.specs.Banding.{band_curves, band_given}
use Rattle.band_banded.specs.Outcomes.{Clear}
use Rattle.walk_tree.proofs.Tree.{either}

-- a refusal of one of them: none of the walk and none of the lent records
pub record Early (r : Refusal) : Type 0 where
  pub not_wide : number_of r ≡ 7 → ⊥
  pub not_few : number_of r ≡ 8 → ⊥
  pub not_many : number_of r ≡ 19 → ⊥

early_at_most : (r : Refusal) → number_of r ≤ 6 → Early r
early_at_most r h = record { not_wide = λ e. omega arith; not_few = λ e. omega arith; not_many = λ e. omega arith }

early_gap : (i : ℕ) → Early (Gap i)
early_gap i = record { not_wide = λ e. omega arith; not_few = λ e. omega arith; not_many = λ e. omega arith }

early_few_pieces : (i : ℕ) → Early (DegreePieces i)
early_few_pieces i = record { not_wide = λ e. omega arith; not_few = λ e. omega arith; not_many = λ e. omega arith }

early_pieces : Early Pieces
early_pieces = record { not_wide = λ e. omega arith; not_few = λ e. omega arith; not_many = λ e. omega arith }

fault_early : (m : ℕ) (ns : List ℤ) (at : ℕ) (r : Refusal) → fault_at m ns at ≡ some r → Early r
fault_early m ns at r e = go r (rw e at (finding m ns at))
  where
    go : (q : Refusal) → Finding m ns at (some q) → Early q
    go _ no_degree = early_at_most (Degree at) (lit≤ tt)
    go _ few_pieces = early_few_pieces at
    go _ cut_short = early_at_most (CutShort (length ns)) (lit≤ tt)
    go _ (beyond i h) = early_at_most (Coordinate i) (lit≤ tt)
    go _ (gap h) = early_gap at

-- ---- an outline's fault
faulty_is : {q r : Refusal} → faulty q ≡ faulty r → q ≡ r
faulty_is e = cc

not_curves : {cs : List Curve} {r : Refusal} → curves cs ≡ faulty r → ⊥
not_curves e = let z : ◌≡◌ {A = ℕ} 0 1 = cc in omega arith

outline_early : (left m : ℕ) (ns : List ℤ) (at : ℕ) (r : Refusal) → outline_from left m ns at ≡ faulty r → Early r
unfolding outline_from
outline_early zero m ns at r = go (ltb at (length ns))
  where
    go : (more : Bool) → elim more [ true ↦ faulty (TooManyCurves at) | false ↦ curves [] ] ≡ faulty r → Early r
    go true e = subst Early (faulty_is e) (early_at_most (TooManyCurves at) (lit≤ tt))
    go false e = absurd (not_curves e)
outline_early (suc left) m ns at r = go (ltb at (length ns)) (fault_at m ns at) (outline_from left m ns (next_at ns at)) (fault_early m ns at)
    (outline_early left m ns (next_at ns at) r)
  where
    go : (more : Bool) (o : Option Refusal) (rest : Outlined) → ((q : Refusal) → o ≡ some q → Early q) → (rest ≡ faulty r → Early r)
        → elim more [ false ↦ curves [] | true ↦ elim o [ some q ↦ faulty q | none ↦ with_curve (curve_at ns at) rest ] ] ≡ faulty r → Early r
    go false o rest f h e = absurd (not_curves e)
    go true (some q) rest f h e = f r (ap some (faulty_is e))
    go true none (curves cs) f h e = absurd (not_curves e)
    go true none (faulty q) f h e = h e

pub outlined_early : (most m : ℕ) (ns : List ℤ) (r : Refusal) → outlined most m ns ≡ faulty r → Early r
unfolding outlined
outlined_early most m [] r e = subst Early (faulty_is e) (early_at_most EmptyOutline (lit≤ tt))
outlined_early most m (z ∷ ns) r e = outline_early most m (z ∷ ns) 0 r e

-- ---- an outline in binary64: 21 beside those of an outline
early_not_whole : (i : ℕ) → Early (NotWhole i)
early_not_whole i = record { not_wide = λ e. omega arith; not_few = λ e. omega arith; not_many = λ e. omega arith }

pub binary64_early : (most m : ℕ) (xs : List Float) (r : Refusal) → outlined_binary64 most m xs ≡ faulty r → Early r
binary64_early most m xs r e =
    let f = whole_fault most m xs r e in
    subst Early (sym f.name) (go (eqb (number_of f.own) 4 && not (whole_of (get_or xs (spot_of f.own) nan))) f.own (outlined_early most m (wholes xs) f.own f.is))
  where
    go : (b : Bool) (q : Refusal) → Early q → Early (elim b [ true ↦ NotWhole (spot_of q) | false ↦ q ])
    go true q h = early_not_whole (spot_of q)
    go false q h = h

-- ---- a list of points: 24 and 25
early_spline : (n : ℕ) → Early (SplineLength n)
early_spline n = record { not_wide = λ e. omega arith; not_few = λ e. omega arith; not_many = λ e. omega arith }

early_far : (i : ℕ) → Early (SplineCoordinate i)
early_far i = record { not_wide = λ e. omega arith; not_few = λ e. omega arith; not_many = λ e. omega arith }

-- what holds of both holds of every refusal of a list of points
pub splined_faulty : (P : Refusal → Type 0) → ((n : ℕ) → P (SplineLength n)) → ((i : ℕ) → P (SplineCoordinate i))
    → (ns : List ℤ) (r : Refusal) → splined ns ≡ faulty r → P r
unfolding splined
splined_faulty P length-is far_is ns r = go (spline_length_fine (length ns)) (first_far ns (length ns) 0)
  where
    go : (b : Bool) (o : Option ℕ)
        → elim b [
          | false ↦ faulty (SplineLength (length ns))
          | true ↦ elim o [ some i ↦ faulty (SplineCoordinate i) | none ↦ curves (splines_from (spline_count (length ns)) ns 0) ]
        ] ≡ faulty r → P r
    go false o e = subst P (faulty_is e) (length-is (length ns))
    go true (some i) e = subst P (faulty_is e) (far_is i)
    go true none e = absurd (not_curves e)

pub splined_early : (ns : List ℤ) (r : Refusal) → splined ns ≡ faulty r → Early r
splined_early = splined_faulty Early early_spline early_far

-- ---- what banding says of the checks
module _ (σ : Setting) (T : ℤ) (o : Outlined) (room : ℕ) where
  pub banded_curves : (cs : List Curve) → Clear σ T o cs → band_given σ T o room ≡ band_curves σ T cs room
  unfolding band_given
  banded_curves cs f = rw (f.pieces, f.tolerance, f.outline, band_given)

  pub faultless_or : ((r : Refusal) → o ≡ faulty r → Early r)
      → ((cs : List Curve) × Clear σ T o cs) ⊎ ((r : Refusal) × (band_given σ T o room ≡ Err r) × Early r)
  unfolding band_given
  faultless_or early = ⊎_elim
      (λ rows. ⊎_elim
      (λ fine. go rows fine o refl)
      (λ (e : tolerance_fine T ≡ false). inr (Tolerance, rw (rows, e, band_given), early_at_most Tolerance (lit≤ tt)))
      (either (tolerance_fine T)))
      (λ (e : pieces_fine σ.pieces ≡ false). inr (Pieces, rw (e, band_given), early_pieces))
      (either (pieces_fine σ.pieces))
    where
      go : pieces_fine σ.pieces ≡ true → tolerance_fine T ≡ true → (p : Outlined) → o ≡ p
          → ((cs : List Curve) × Clear σ T o cs) ⊎ ((r : Refusal) × (band_given σ T o room ≡ Err r) × Early r)
      go rows fine (curves cs) e = inl (cs, record { pieces = rows; tolerance = fine; outline = e })
      go rows fine (faulty r) e = inr (r, rw (rows, fine, e, band_given), early r e)
