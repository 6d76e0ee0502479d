-- What the code holds of a width at a depth: bend over 4^depth, divided by 3750, and two more.
use mathlib.Core.Path.{◌≡◌, refl, sym, ◌∙◌, ap}
use mathlib.Core.List.{[], ◌∷◌}
use Prim.Native.Nat.{ℕ, ◌+◌, ◌*◌, ◌/◌, ◌%◌, ◌^◌, ◌≤◌, ◌<◌}
use native.Mathlib.Nat.{div-one, div-le_self, pow-suc, one-mul, mod-eq_of_lt, lt_of_le_of_lt, div-div-eq-div-mul}
use native.Mathlib.Numerals.{add-one}
use native.Mathlib.Omega.{arith}
use lib.Dec.{lit<}
use lib.Pow.{pow_mono}
use lib.IntN.{ℤ, pos, ◌+ℤ◌}
use lib.Signed.{lt_z}
use mathlib.Core.Bool.{false}
use mir.Syntax.{w64}
use mir.Val.{to_z}
use mir.Facts.{to_z_pos}
use Rattle.integers.specs.Squares.{squared}
use Rattle.integers.proofs.Ring.{sides}
use Rattle.integers.proofs.Order.{gap, le_by}
use Rattle.integers.proofs.Ranges.{lt_no}
use Rattle.bound_coordinate.specs.Inside.{Computed}
use Rattle.band_room.specs.Inside.{Reaches}

-- ---- bend over 4^j, a quarter at each step
pub parted_start : (bend : ℕ) → bend ≡ bend / 4 ^ 0
parted_start bend = sym (div-one bend)

pub parted_next : (bend j : ℕ) {part : ℕ} → part ≡ bend / 4 ^ j → part / 2 ^ 2 ≡ bend / 4 ^ (j + 1)
parted_next bend j e = ap (λ n. n / 4) e ∙ div-div-eq-div-mul bend (4 ^ j) 4 ∙ ap (λ n. bend / n) (sym (ap (λ n. 4 ^ n) (add-one j) ∙ pow-suc 4 j))

module _ {bend part : ℕ} (j : ℕ) (e : part ≡ bend / 4 ^ j) (h : bend ≤ 90000 * 2 ^ 22) where
  part_under : part / 3750 ≤ 2 ^ 27
  part_under = omega (arith, e, div-le_self bend (4 ^ j), h)

  pub wide_fits : part / 3750 < 2 ^ 63
  wide_fits = lt_of_le_of_lt part_under (lit< tt)

  pub wide_computed : Computed (2 ^ 27) (pos (part / 3750)) (to_z w64 (part / 3750))
  wide_computed = let f = to_z_pos w64 (lt_of_le_of_lt part_under (lit< tt)) in record { is = f; size = rw f part_under }

-- ---- the answer
pub power_is : {j : ℕ} → j ≤ 8 → 1 * 2 ^ j % 2 ^ 64 ≡ 2 ^ j
power_is {j} h = ap (λ (n : ℕ). n % 2 ^ 64) (one-mul (2 ^ j)) ∙ mod-eq_of_lt (lt_of_le_of_lt (pow_mono {j = 8} h) (lit< tt))

pub reaches : (bend : ℕ) (T : ℤ) (j : ℕ) {part n : ℕ} → j ≤ 8 → part ≡ bend / 4 ^ j → n ≡ 2 ^ j
    → lt_z (squared T) (squared (pos (part / 3750) +ℤ pos 2) +ℤ squared (pos (part / 3750) +ℤ pos 2)) ≡ false → Reaches bend T n
reaches bend T j {part} l e is fits = record {
  depth = j;
  within = l;
  is = is;
  fits = rw (← e) (le_by (pos (part / 3750) ∷ T ∷ []) (gap {a = squared (pos (part / 3750) +ℤ pos 2) +ℤ squared (pos (part / 3750) +ℤ pos 2)} {b = squared T} (lt_no fits)) (search sides depth 40) refl);
}
