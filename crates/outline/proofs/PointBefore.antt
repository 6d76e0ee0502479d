-- Check 17 in terms of curves: the two numbers before a curve's degree are the last point of the curve before it, so the two curves meet exactly
-- where the check passes.
use mathlib.Core.Path.{◌≡◌, refl, sym, ◌∙◌, ap}
use mathlib.Core.Bool.{true, ◌&&◌}
use mathlib.Core.List.{List}
use mathlib.Core.Logic.{◌↔◌}
use Prim.Native.Nat.{ℕ, ◌+◌, ◌-◌, ◌*◌, ◌≤◌, ◌<◌, zero-le}
use native.Mathlib.Omega.{arith}
use borrow.Author.Tests.{le-ltb, le-leb}
use lib.IntN.{ℤ}
use Rattle.setting.specs.Setting.{control_values}
use Rattle.integers.specs.Entry.{entry}
use Rattle.integers.specs.Equal.{equal}
use Rattle.integers.proofs.Both.{both_true}
use Rattle.integers.proofs.Equal.{equal-≡, ≡-equal}
use Rattle.curve_halves.proofs.Values.{listed_entry}
use Rattle.outline.specs.Curves.{degree_fine, degree_at, next_at, values, curve_at}
use Rattle.outline.specs.Meeting.{CurvesMeet}
use Rattle.outline.proofs.Degrees.{degree_most}
use Rattle.outline.specs.Faults.{meets_before}
use Rattle.outline.proofs.Faultless.{value_at}

-- control value k of a coordinate, whose values begin at index i, stands at index j
value_there : (ns : List ℤ) (d i k j : ℕ) → k ≤ d → k < control_values → i + 2 * k ≡ j → entry (values ns d i) k ≡ entry ns j
value_there ns d i k j h l e = listed_entry control_values (value_at ns d i) k l ∙ rw (le-leb k d h) (ap (entry ns) e)

module _ (ns : List ℤ) (at : ℕ) where
  first_x : entry (curve_at ns at).x 0 ≡ entry ns (at + 1)
  unfolding curve_at
  first_x = value_there ns (degree_at ns at) (at + 1) 0 (at + 1) zero-le (omega arith) (omega arith)

  first_y : entry (curve_at ns at).y 0 ≡ entry ns (at + 2)
  unfolding curve_at
  first_y = value_there ns (degree_at ns at) (at + 2) 0 (at + 2) zero-le (omega arith) (omega arith)

-- the first curve has none before it, so it meets; nothing is asked of the end of the list
pub first_meets : (ns : List ℤ) → meets_before ns 0 ≡ true
first_meets ns = refl

module _ (ns : List ℤ) (at : ℕ) (degree : degree_fine (entry ns at) ≡ true) where
  abbrev next : ℕ
  next = next_at ns at

  last_x : entry (curve_at ns at).x (curve_at ns at).degree ≡ entry ns (next - 2)
  unfolding curve_at
  last_x = let d = degree_at ns at in value_there ns d (at + 1) d (next - 2) (omega arith) (omega (arith, degree_most ns at degree)) (omega arith)

  last_y : entry (curve_at ns at).y (curve_at ns at).degree ≡ entry ns (next - 1)
  unfolding curve_at
  last_y = let d = degree_at ns at in value_there ns d (at + 2) d (next - 1) (omega arith) (omega (arith, degree_most ns at degree)) (omega arith)

  -- a curve stands before the next one, so its points are compared
  compared : meets_before ns next ≡ equal (entry ns (next - 2)) (entry ns (next + 1)) && equal (entry ns (next - 1)) (entry ns (next + 2))
  compared = rw (le-ltb next 2 (omega arith))

  pub meets_exactly : (meets_before ns (next_at ns at) ≡ true) ↔ CurvesMeet (curve_at ns at) (curve_at ns (next_at ns at))
  meets_exactly = (
    λ e.
        let h = both_true (equal (entry ns (next - 2)) (entry ns (next + 1))) _ (sym compared ∙ e) in
        record { in_x = last_x ∙ equal-≡ h.0 ∙ sym (first_x ns next); in_y = last_y ∙ equal-≡ h.1 ∙ sym (first_y ns next) },
    λ m. compared ∙ rw (≡-equal (sym last_x ∙ m.in_x ∙ first_x ns next), ≡-equal (sym last_y ∙ m.in_y ∙ first_y ns next)),
  )
