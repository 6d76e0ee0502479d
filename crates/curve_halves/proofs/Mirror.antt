-- The mirror law: the right half in reverse order is the left half of the control values in reverse order.
use mathlib.Core.Path.{◌≡◌, sym, ◌∙◌, ap, ap₂}
use mathlib.Core.List.{List}
use Prim.Native.Nat.{ℕ, zero, suc, ◌+◌, ◌-◌}
use native.Mathlib.Omega.{arith}
use lib.IntN.{ℤ, pos, ◌+ℤ◌, ◌*ℤ◌, pow, +ℤ_comm}
use Rattle.integers.specs.Entry.{entry}
use Rattle.curve_halves.specs.Halves.{triangle, left, right, reversed}
use Rattle.curve_halves.proofs.Lists.{listed_entry, listed_ext, reversed_entry}

triangle_reversed : (d : ℕ) (cs : List ℤ) (j i m : ℕ) → i + j + m ≡ d → triangle (reversed d cs) j i ≡ triangle cs j m
unfolding triangle
triangle_reversed d cs zero i m e = reversed_entry d cs i m (omega arith)
triangle_reversed d cs (suc j) i m e =
    ap₂ ◌+ℤ◌ (triangle_reversed d cs j i (suc m) (omega arith)) (triangle_reversed d cs j (suc i) m (omega arith))
    ∙ +ℤ_comm (triangle cs j (suc m)) (triangle cs j m)

pub mirror : (d : ℕ) (cs : List ℤ) → reversed d (right d cs) ≡ left d (reversed d cs)
unfolding left right
mirror d cs = listed_ext (suc d) (λ k. entry (right d cs) (d - k)) (λ k. pow (pos 2) (d - k) *ℤ triangle (reversed d cs) k 0) (λ k l.
    listed_entry (suc d) (λ j. pow (pos 2) j *ℤ triangle cs (d - j) j) (d - k) (omega arith)
    ∙ ap (λ x. pow (pos 2) (d - k) *ℤ x) (ap (λ j. triangle cs j (d - k)) (omega arith) ∙ sym (triangle_reversed d cs k 0 (d - k) (omega arith))))
