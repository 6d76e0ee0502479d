-- Uniform cubic B-splines (document 02, request 13): a list of n points, x and y of each, gives n − 3 curves. The four
-- neighbours b0 to b3 from a point on make one with control points (b0 + 4 b1 + b2) / 6, (2 b1 + b2) / 3,
-- (b1 + 2 b2) / 3 and (b1 + 4 b2 + b3) / 6. Its control values are kept as sixths, which are whole.
use Rattle.std.specs.Prelude.{Bool, true, false, ◌&&◌, List, [], ◌∷◌, ℕ, zero, suc, ◌+◌, ◌-◌, ◌/◌, ◌%◌, eqb}
use Rattle.std.specs.Prelude.{leb, length, ℤ, pos, neg_ℤ, ◌+ℤ◌, ◌*ℤ◌}
use Rattle.std.proofs.Math.Option.{Option, none, some}
use Rattle.integers.specs.Entry.{entry}
use Rattle.integers.specs.Between.{between}
use Rattle.integers.specs.First.{first_bad}
use Rattle.refusals.specs.declared.Refusal.TheVariants.{SplineLength, SplineCoordinate}
use Rattle.curve_nodes.specs.declared.Curve.{Curve}
use Rattle.outline.specs.Checks.{Outlined, curves, faulty}

-- six times the control values of one coordinate
abbrev pub sixfold : (b0 b1 b2 b3 : ℤ) → List ℤ
sixfold b0 b1 b2 b3 =
    (b0 +ℤ pos 4 *ℤ b1 +ℤ b2)
    ∷ (pos 2 *ℤ (pos 2 *ℤ b1 +ℤ b2))
    ∷ (pos 2 *ℤ (b1 +ℤ pos 2 *ℤ b2))
    ∷ (b1 +ℤ pos 4 *ℤ b2 +ℤ b3)
    ∷ pos 0 ∷ pos 0 ∷ []

-- six times the control values of the coordinate whose first number stands at index i
abbrev pub spline_values : List ℤ → ℕ → List ℤ
spline_values ns i = sixfold (entry ns i) (entry ns (i + 2)) (entry ns (i + 4)) (entry ns (i + 6))

-- the curve of the four points from index `at` on, which is that of an x
unfoldable pub spline_at : List ℤ → ℕ → Curve
spline_at ns at = record { degree = 3; x = spline_values ns at; y = spline_values ns (at + 1) }

-- n curves, each of which begins one point after the one before it
unfoldable pub splines_from : ℕ → List ℤ → ℕ → List Curve
splines_from zero ns at = []
splines_from (suc n) ns at = spline_at ns at ∷ splines_from n ns (at + 2)

-- how many curves so many numbers give
abbrev pub spline_count : ℕ → ℕ
spline_count n = n / 2 - 3

-- ---- 24: the list has an even count of numbers, from 8 to 8,198
abbrev pub spline_length_fine : ℕ → Bool
spline_length_fine n = eqb (n % 2) 0 && (leb 8 n && leb n 8198)

-- ---- 25: a coordinate is −131,072 to 131,072
abbrev pub spline_fine : ℤ → Bool
spline_fine z = between (neg_ℤ (pos 131072)) (pos 131072) z

abbrev pub first_far : List ℤ → ℕ → ℕ → Option ℕ
first_far ns n i = first_bad (λ k. spline_fine (entry ns k)) n i

-- the curves, or the first fault: 24, then 25
unfoldable pub splined : List ℤ → Outlined
splined ns =
    elim (spline_length_fine (length ns)) [
      | false ↦ faulty (SplineLength (length ns))
      | true ↦
          elim (first_far ns (length ns) 0) [
            | some i ↦ faulty (SplineCoordinate i)
            | none ↦ curves (splines_from (spline_count (length ns)) ns 0)
          ]
    ]
