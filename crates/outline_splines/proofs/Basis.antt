-- Curve k of a list of points is the uniform cubic B-spline of points k to k + 3: its value at every parameter is the sum of the basis over them.
-- Each curve begins where the one before it ends.
use mathlib.Core.Path.{◌≡◌, refl, ◌∙◌, ap, ap₂}
use mathlib.Core.List.{List, [], ◌∷◌, ◌++◌}
use Prim.Native.Nat.{ℕ, zero, suc, ◌+◌, ◌-◌, ◌*◌, ◌<◌}
use native.Mathlib.Omega.{arith}
use lib.IntN.{ℤ, pos, ◌+ℤ◌, ◌*ℤ◌, pow, one}
use Rattle.integers.specs.Entry.{entry}
use Rattle.integers.proofs.Ring.{ring, sides}
use Rattle.curve_bernstein.specs.Value.{choose, sum, value}
use Rattle.outline.specs.Meeting.{CurvesMeet}
use Rattle.outline_splines.specs.Splines.{sixfold, spline_values, spline_at, splines_from}
use Rattle.outline_splines.specs.Basis.{basis_sum, point_at, spline_sum}

-- ---- the value of the control points that four neighbours make, in sixths
pub spline_basis : (p r b0 b1 b2 b3 : ℤ) → value p r 3 (sixfold b0 b1 b2 b3) ≡ basis_sum p r b0 b1 b2 b3
unfolding value sum choose pow one
spline_basis p r b0 b1 b2 b3 = ring (p ∷ r ∷ b0 ∷ b1 ∷ b2 ∷ b3 ∷ []) (search sides depth 60 fits 9999) refl

-- ---- the curves of a list of points, by their number
pub curve_number : (n k : ℕ) → k < n → (ns : List ℤ) (at : ℕ)
    → splines_from n ns at ≡ splines_from k ns at ++ spline_at ns (at + 2 * k) ∷ splines_from (n - (k + 1)) ns (at + 2 * k + 2)
unfolding splines_from
curve_number zero k h ns at = absurd (omega arith)
curve_number (suc n) zero h ns at = ap₂ (λ (i m : ℕ). spline_at ns i ∷ splines_from m ns (i + 2)) {x = at} {y = at + 2 * 0} {u = n} {v = suc n - (0 + 1)}
    (omega arith) (omega arith)
curve_number (suc n) (suc k) h ns at =
    ap (λ cs. spline_at ns at ∷ cs) (curve_number n k (omega arith) ns (at + 2))
    ∙ ap₂ (λ (i m : ℕ). spline_at ns at ∷ (splines_from k ns (at + 2) ++ spline_at ns i ∷ splines_from m ns (i + 2)))
    {x = at + 2 + 2 * k} {y = at + 2 * suc k} {u = n - (k + 1)} {v = suc n - (suc k + 1)} (omega arith) (omega arith)

module _ (ns : List ℤ) (k : ℕ) (p r : ℤ) where
  -- coordinate `which` of curve k
  value_of : (which at : ℕ) → at ≡ 2 * k + which → value p r 3 (spline_values ns at) ≡ spline_sum ns which k p r
  value_of which at e =
      spline_basis p r (entry ns at) (entry ns (at + 2)) (entry ns (at + 4)) (entry ns (at + 6))
      ∙ ap₂ (λ (i j : ℕ). basis_sum p r (entry ns i) (entry ns j) (entry ns (at + 4)) (entry ns (at + 6)))
      {x = at} {y = 2 * k + which} {u = at + 2} {v = 2 * (k + 1) + which} (omega arith) (omega arith)
      ∙ ap₂ (λ (i j : ℕ). basis_sum p r (point_at ns which k) (point_at ns which (k + 1)) (entry ns i) (entry ns j))
      {x = at + 4} {y = 2 * (k + 2) + which} {u = at + 6} {v = 2 * (k + 3) + which} (omega arith) (omega arith)

  pub curve_value : (value p r 3 (spline_at ns (2 * k)).x ≡ spline_sum ns 0 k p r) × (value p r 3 (spline_at ns (2 * k)).y ≡ spline_sum ns 1 k p r)
  unfolding spline_at
  curve_value = (value_of 0 (2 * k) (omega arith), value_of 1 (2 * k + 1) refl)

-- ---- the last control point of a curve is the first of the next
pub splines_meet : (ns : List ℤ) (at : ℕ) → CurvesMeet (spline_at ns at) (spline_at ns (at + 2))
unfolding spline_at
splines_meet ns at = record { in_x = same at; in_y = moved }
  where
    same : (i : ℕ) → entry ns (i + 2) +ℤ pos 4 *ℤ entry ns (i + 4) +ℤ entry ns (i + 6)
        ≡ entry ns (i + 2) +ℤ pos 4 *ℤ entry ns (i + 2 + 2) +ℤ entry ns (i + 2 + 4)
    same i = ap₂ (λ (a b : ℕ). entry ns (i + 2) +ℤ pos 4 *ℤ entry ns a +ℤ entry ns b) {x = i + 4} {y = i + 2 + 2} {u = i + 6} {v = i + 2 + 4}
        (omega arith) (omega arith)

    moved : entry ns (at + 1 + 2) +ℤ pos 4 *ℤ entry ns (at + 1 + 4) +ℤ entry ns (at + 1 + 6)
        ≡ entry ns (at + 2 + 1) +ℤ pos 4 *ℤ entry ns (at + 2 + 1 + 2) +ℤ entry ns (at + 2 + 1 + 4)
    moved = same (at + 1) ∙ ap (λ (i : ℕ). entry ns i +ℤ pos 4 *ℤ entry ns (i + 2) +ℤ entry ns (i + 4)) {x = at + 1 + 2} {y = at + 2 + 1} (omega arith)
