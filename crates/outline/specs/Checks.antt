-- The checks of a tolerance and of an outline, in document 01's order ("Place of each check"), with 17 and 20 of
-- document 02. The most curves that an outline may have and the number of pieces are parameters.
use Rattle.std.specs.Prelude.{Bool, true, false, List, [], ◌∷◌, ℕ, zero, suc, ltb, length, ℤ, pos}
use Rattle.std.proofs.Math.Option.{none, some}
use Rattle.integers.specs.Between.{between}
use Rattle.refusals.specs.declared.Refusal.{Refusal}
use Rattle.refusals.specs.declared.Refusal.TheVariants.{TooManyCurves, EmptyOutline}
use Rattle.curve_nodes.specs.declared.Curve.{Curve}
use Rattle.outline.specs.Curves.{next_at, curve_at}
use Rattle.outline.specs.Faults.{fault_at}

-- ---- 1: the tolerance is 2 to 1,048,576
abbrev pub tolerance_fine : ℤ → Bool
tolerance_fine T = between (pos 2) (pos 1048576) T

-- ---- the curves, or the first fault
pub data Outlined : Type 0 where
  curves : List Curve → Outlined
  faulty : Refusal → Outlined

abbrev pub with_curve : Curve → Outlined → Outlined
with_curve c (curves cs) = curves (c ∷ cs)
with_curve c (faulty r) = faulty r

-- curve by curve from index `at` on, where `left` is how many more may begin: 5 where one more does, else its faults
unfoldable pub outline_from : (left m : ℕ) → List ℤ → ℕ → Outlined
outline_from zero m ns at = elim (ltb at (length ns)) [ true ↦ faulty (TooManyCurves at) | false ↦ curves [] ]
outline_from (suc left) m ns at =
    elim (ltb at (length ns)) [
      | false ↦ curves []
      | true ↦
          elim (fault_at m ns at) [
            | some r ↦ faulty r
            | none ↦ with_curve (curve_at ns at) (outline_from left m ns (next_at ns at))
          ]
    ]

-- 6 where the list is empty
unfoldable pub outlined : (most m : ℕ) → List ℤ → Outlined
outlined most m [] = faulty EmptyOutline
outlined most m (z ∷ ns) = outline_from most m (z ∷ ns) 0
