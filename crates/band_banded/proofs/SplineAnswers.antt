-- Which refusals banding of a B-spline can give, and no other.
use mathlib.Core.Path.{◌≡◌, refl, sym, ◌∙◌, ap, subst}
use mathlib.Core.Bool.{Bool, true, false}
use mathlib.Core.Logic.{⊎_elim}
use mathlib.Core.List.{List}
use Prim.Native.Nat.{ℕ}
use lib.Dec.{lit≤}
use lib.IntN.{ℤ}
use Rattle.setting.specs.Setting.{splines, pieces_fine}
use Rattle.refusals.specs.declared.Refusal.{Refusal}
use Rattle.refusals.specs.declared.Refusal.TheVariants.{Pieces, Tolerance, TooManyLeaves}
use Rattle.curve_nodes.specs.declared.Curve.{Curve}
use Rattle.outline.specs.Checks.{Outlined, curves, faulty, tolerance_fine}
use Rattle.outline_splines.specs.Splines.{splined}
use Rattle.std.specs.Prelude.{Result, Err}
use Rattle.band_banded.specs.declared.banding.Banded.{Banded}
use Rattle.band_banded.specs.Banding.{band_outlined, band_given, banded_spline}
use Rattle.band_banded.specs.Outcomes.{SplineRefusal, pieces, tolerance, count_of_numbers, coordinate, wide, few}
use Rattle.band_banded.proofs.Cases.{said_refused}
use Rattle.band_banded.proofs.Faults.{splined_faulty}
use Rattle.band_banded.proofs.Given.{spline_given}
use Rattle.band_banded.proofs.Theorems.{never_many_given}

same_refusal : {q r : Refusal} → ◌≡◌ {A = Result Banded Refusal} (Err q) (Err r) → q ≡ r
same_refusal e = cc

-- a list of points has 24 or 25
points_refused : (ns : List ℤ) (r : Refusal) → splined ns ≡ faulty r → SplineRefusal r
points_refused = splined_faulty SplineRefusal count_of_numbers coordinate

module _ (m : ℕ) (T : ℤ) (ns : List ℤ) (room : ℕ) (r : Refusal) where
  -- the walk and the lent records refuse with 7 and 8, and never with 19
  curves_refused : (cs : List Curve) → (TooManyLeaves-never : (l : ℕ) → r ≡ TooManyLeaves l → ⊥)
      → band_outlined (splines m) T (curves cs) room ≡ Err r → SplineRefusal r
  curves_refused cs never e = ⊎_elim
      (λ w. subst SplineRefusal (sym w.2) (wide w.0 w.1))
      (⊎_elim (λ l. absurd (never l.0 l.1)) (λ l. subst SplineRefusal (sym l.1) (few l.0)))
      (said_refused (splines m) T cs room r e)

  pub spline_refused : banded_spline m T ns room ≡ Err r → SplineRefusal r
  unfolding band_given
  spline_refused e =
      go (pieces_fine m) (tolerance_fine T) (splined ns) (points_refused ns)
      (λ l f. never_many_given (splines m) T (spline_given m ns) room (lit≤ tt) l (e ∙ ap Err f)) e
    where
      go : (a b : Bool) (o : Outlined) → ((q : Refusal) → o ≡ faulty q → SplineRefusal q) → ((l : ℕ) → r ≡ TooManyLeaves l → ⊥)
          → ◌≡◌ {A = Result Banded Refusal}
          (elim a [ false ↦ Err Pieces | true ↦ elim b [ false ↦ Err Tolerance | true ↦ band_outlined (splines m) T o room ] ]) (Err r)
          → SplineRefusal r
      go false b o own never f = subst SplineRefusal (same_refusal f) pieces
      go true false o own never f = subst SplineRefusal (same_refusal f) tolerance
      go true true (faulty q) own never f = subst SplineRefusal (same_refusal f) (own q refl)
      go true true (curves cs) own never f = curves_refused cs never f
