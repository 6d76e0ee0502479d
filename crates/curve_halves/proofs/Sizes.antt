-- How large the control values of a half are: at most 2^d times as large as the coordinate's own.
use mathlib.Core.Path.{◌≡◌, ap}
use mathlib.Core.List.{List}
use Prim.Native.Nat.{ℕ, zero, suc, ◌+◌, ◌-◌, ◌*◌, ◌^◌, ◌≤◌, ◌<◌, zero-le}
use native.Mathlib.Nat.{le_trans, le_of_eq, add-le-add, mul-le-mul, two-pow-succ, add-mul, mul_assoc}
use native.Mathlib.Omega.{arith}
use lib.Pow.{pow-add}
use lib.IntN.{ℤ, pos, nat_abs, ◌*ℤ◌, pow}
use Rattle.setting.specs.Setting.{control_values}
use Rattle.integers.specs.Entry.{entry}
use Rattle.integers.proofs.RingLaws.{pow_natural}
use Rattle.integers.proofs.Size.{abs_add, abs_mul}
use Rattle.curve_halves.specs.Halves.{listed, triangle, left, right, reversed, padded}
use Rattle.curve_halves.specs.Sizes.{Each}
use Rattle.curve_halves.proofs.Values.{right_mirrored}

-- ---- lists
pub listed_under : (B n : ℕ) (f : ℕ → ℤ) → ((k : ℕ) → k < n → nat_abs (f k) ≤ B) → (k : ℕ) → nat_abs (entry (listed n f) k) ≤ B
listed_under B zero f h k = zero-le
listed_under B (suc n) f h zero = h 0 (omega arith)
listed_under B (suc n) f h (suc k) = listed_under B n (λ i. f (suc i)) (λ i l. h (suc i) (omega arith)) k

pub each_wider : {B C : ℕ} {cs : List ℤ} → B ≤ C → Each B cs → Each C cs
each_wider l h = record { under = λ k. le_trans (h.under k) l }

pub each_padded : {B : ℕ} {cs : List ℤ} → Each B cs → Each B (padded cs)
each_padded {B} {cs} h = record { under = listed_under B control_values (entry cs) (λ k l. h.under k) }

pub each_reversed : {B : ℕ} {cs : List ℤ} → Each B cs → (d : ℕ) → Each B (reversed d cs)
each_reversed {B} {cs} h d = record { under = listed_under B (suc d) (λ k. entry cs (d - k)) (λ k l. h.under (d - k)) }

-- ---- halves
module _ {B : ℕ} {cs : List ℤ} (h : Each B cs) where
  pub triangle_under : (j i : ℕ) → nat_abs (triangle cs j i) ≤ 2 ^ j * B
  unfolding triangle
  triangle_under zero i = omega (arith, h.under i)
  triangle_under (suc j) i = rw (two-pow-succ, add-mul)
      (le_trans (abs_add (triangle cs j i) (triangle cs j (suc i))) (add-le-add (triangle_under j i) (triangle_under j (suc i))))

  -- an entry of the left half
  half_under : (d m j i : ℕ) → m + j ≡ d → nat_abs (pow (pos 2) m *ℤ triangle cs j i) ≤ 2 ^ d * B
  half_under d m j i e = rw (← e, pow-add, mul_assoc)
      (le_trans (le_of_eq (abs_mul (pow (pos 2) m) (triangle cs j i))) (mul-le-mul (le_of_eq (ap nat_abs (pow_natural 2 m))) (triangle_under j i)))

  pub each_left : (d : ℕ) → Each (2 ^ d * B) (left d cs)
  unfolding left
  each_left d = record {
    under = listed_under (2 ^ d * B) (suc d) (λ k. pow (pos 2) (d - k) *ℤ triangle cs k 0) (λ k l. half_under d (d - k) k 0 (omega arith));
  }

pub each_right : {B : ℕ} {cs : List ℤ} → Each B cs → (d : ℕ) → Each (2 ^ d * B) (right d cs)
each_right {cs = cs} h d = rw (right_mirrored d cs) (each_reversed (each_left (each_reversed h d) d) d)
