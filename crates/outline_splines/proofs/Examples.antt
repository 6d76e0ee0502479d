-- B-splines by computation: the control values of one curve, and both refusals with their spots.
use mathlib.Core.Path.{◌≡◌, refl}
use mathlib.Core.List.{[], ◌∷◌}
use lib.IntN.{pos, neg_ℤ}
use Rattle.integers.specs.First.{first_bad}
use Rattle.refusals.specs.declared.Refusal.TheVariants.{SplineLength, SplineCoordinate}
use Rattle.outline.specs.Checks.{curves, faulty}
use Rattle.outline_splines.specs.Splines.{spline_at, splines_from, splined}

-- (0 0) (6 12) (12 0) (18 −6): control points (6 8) (8 8) (10 4) (12 1), in sixths
pub one_curve : splined (pos 0 ∷ pos 0 ∷ pos 6 ∷ pos 12 ∷ pos 12 ∷ pos 0 ∷ pos 18 ∷ neg_ℤ (pos 6) ∷ [])
    ≡ curves (record {
      degree = 3;
      x = pos 36 ∷ pos 48 ∷ pos 60 ∷ pos 72 ∷ pos 0 ∷ pos 0 ∷ [];
      y = pos 48 ∷ pos 48 ∷ pos 24 ∷ pos 6 ∷ pos 0 ∷ pos 0 ∷ [];
    } ∷ [])
unfolding splined splines_from spline_at first_bad
one_curve = refl

-- 24: an odd count, and fewer than 8; 25: the first coordinate that is beyond
pub odd : splined (pos 0 ∷ pos 0 ∷ pos 0 ∷ pos 0 ∷ pos 0 ∷ pos 0 ∷ pos 0 ∷ pos 0 ∷ pos 0 ∷ []) ≡ faulty (SplineLength 9)
unfolding splined
odd = refl

pub short : splined (pos 131073 ∷ pos 0 ∷ pos 0 ∷ pos 0 ∷ pos 0 ∷ pos 0 ∷ []) ≡ faulty (SplineLength 6)
unfolding splined
short = refl

pub far : splined (pos 131072 ∷ neg_ℤ (pos 131072) ∷ pos 0 ∷ neg_ℤ (pos 131073) ∷ pos 0 ∷ pos 131073 ∷ pos 0 ∷ pos 0 ∷ [])
    ≡ faulty (SplineCoordinate 3)
unfolding splined first_bad
far = refl
