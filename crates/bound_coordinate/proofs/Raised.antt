-- Degrees 4 and 5 divide a number that was raised by 2^28 times the divisor, which is not negative: shifted, multiplied by 5040 / m and divided by
-- 3150000 as the machine does, it is rounded down, and 2^28 more than what was not raised.
use mathlib.Core.Path.{◌≡◌, refl, sym, ◌∙◌, ap, subst}
use mathlib.Core.Bool.{true}
use mathlib.Core.List.{[], ◌∷◌}
use Prim.Native.Nat.{ℕ, ◌+◌, ◌*◌, ◌/◌, ◌%◌, ◌^◌, ◌≤◌, suc-le-suc}
use native.Mathlib.Nat.{le_trans, le_refl, le_of_eq, lt_of_le_of_lt, mul-le-mul, mul_assoc, mul_comm, mul_right_comm, le_of_mul-le-mul_right}
use native.Mathlib.Nat.{div-mul-le_self, div-le_of_le-mul, mul-div-mul_right, div-div-eq-div-mul}
use lib.Dec.{T, lit<}
use lib.Pow.{pow_pos, pow_mono}
use lib.IntN.{ℤ, pos, negsuc, nat_abs, ◌+ℤ◌, ◌-ℤ◌, ◌*ℤ◌, +ℤ_assoc}
use lib.Signed.{non_neg, ◌≤ℤ◌, ◌<ℤ◌, pos-nat_abs}
use mir.Syntax.{w64}
use mir.Val.{Fits, SFits, to_z, of_z}
use mir.Facts.{to_z-of_z}
use Rattle.integers.specs.Rounding.{floor, ceiling}
use Rattle.integers.proofs.Ring.{ring, sides}
use Rattle.integers.proofs.Ranges.{stored}
use Rattle.integers.proofs.Order.{NonNeg, natural, nonneg, gap, le_by, pos_le, le_pos, balance, ◌+₀◌, ◌×₀◌}
use Rattle.integers.proofs.Machine.{Held, fits!, is!, unsigned!, held_pos, held_neg, held_count, held_add, held_stored, held_parameter}
use Rattle.integers.proofs.Size.{abs_high, abs_low, abs_within}
use Rattle.integers.proofs.Rounding.{floor_raised}
use Rattle.bound_coordinate.specs.Terms.{denominator_of}
use Rattle.bound_coordinate.specs.HigherTerms.{raise_of, Raised, RoundedDown}
use Rattle.bound_coordinate.proofs.Coordinates.{bounded, pieces, held_left}
use Rattle.bound_coordinate.proofs.Quotients.{factor_some, ceiling_raised}

-- ---- raised by k times the divisor, a quotient is k more
module _ {d : ℤ} (hd : pos 0 <ℤ d) (k n : ℤ) where
  off : {x : ℤ} → k +ℤ x -ℤ k ≡ x
  off {x} = ring (k ∷ x ∷ []) {a = k +ℤ x -ℤ k} (search sides depth 20) refl

  pub floor_off : floor (k *ℤ d +ℤ n) d -ℤ k ≡ floor n d
  floor_off = ap (λ z. z -ℤ k) (floor_raised hd k n) ∙ off

  pub ceiling_off : ceiling (k *ℤ d +ℤ n) d -ℤ k ≡ ceiling n d
  ceiling_off =
      ap (λ z. z -ℤ k) (sym (ceiling_raised (k *ℤ d +ℤ n) hd) ∙ ap (λ z. floor z d) (+ℤ_assoc (k *ℤ d) n (d -ℤ pos 1))
      ∙ floor_raised hd k (n +ℤ (d -ℤ pos 1)) ∙ ap (λ z. k +ℤ z) (ceiling_raised n hd)) ∙ off

-- ---- raised far enough
pub raised_of : (m : ℕ) {s c : ℕ} {n : ℤ} → nat_abs (n -ℤ raise_of m s) ≤ 2 ^ 28 * (625 * m * 2 ^ s) → s ≤ 20 → c * m ≡ 5040 → Raised s c n
raised_of m {s} {c} {n} h shallow scaled = record {
  some = le_by (n ∷ pos m ∷ pos (2 ^ s) ∷ []) (gap (abs_low (n -ℤ raise_of m s) h)) (search sides depth 20) refl;
  high = le_by (n ∷ pos c ∷ pos m ∷ pos (2 ^ s) ∷ [])
      (natural c ×₀ gap (abs_high (n -ℤ raise_of m s) h) +₀ balance (pos (2 ^ 29 * 625) *ℤ pos (2 ^ s)) (ap pos (sym scaled)))
      (search sides depth 20) refl;
  shallow = shallow;
}

-- ---- the quotient of naturals
module _ (m c : ℕ) (scaled : c * m ≡ 5040) where
  divisor_is : 3150000 ≡ 625 * m * c
  divisor_is = ap (λ (k : ℕ). 625 * k) (sym scaled ∙ mul_comm c m) ∙ sym (mul_assoc 625 m c)

  quotient_is : (a s : ℕ) → a / 2 ^ s * c / 3150000 ≡ a / (625 * m * 2 ^ s)
  quotient_is a s =
      ap (λ (k : ℕ). a / 2 ^ s * c / k) divisor_is
      ∙ mul-div-mul_right (a / 2 ^ s) (625 * m) (factor_some m c (mul_comm m c ∙ scaled))
      ∙ div-div-eq-div-mul a (2 ^ s) (625 * m)
      ∙ ap (λ (k : ℕ). a / k) (mul_comm (2 ^ s) (625 * m))

floor_natural : (n : ℤ) (m s : ℕ) → T (non_neg n) → floor n (denominator_of m s) ≡ pos (nat_abs n / (625 * m * 2 ^ s))
unfolding floor
floor_natural (pos a) m s t = refl
floor_natural (negsuc a) m s t = absurd t

-- ---- as the machine has it
module _ (n : ℤ) (s c : ℕ) (h : Raised s c n) (hn : SFits w64 n) where
  abbrev a : ℕ
  a = nat_abs (stored w64 n)

  some : NonNeg n
  some = nonneg h.some

  pub raised_unsigned : T (non_neg (stored w64 n)) × Fits w64 a
  raised_unsigned = unsigned! (stored w64 n) (held_parameter w64 n hn) tt some

  high : a * c ≤ 2 ^ 29 * 3150000 * 2 ^ s
  high = le_pos (subst (λ z. (z *ℤ pos c) ≤ℤ pos (2 ^ 29 * 3150000 * 2 ^ s))
      (sym (pos-nat_abs n some.holds) ∙ ap (λ z. pos (nat_abs z)) (sym (to_z-of_z hn))) h.high)

  abbrev product : ℕ
  product = a / 2 ^ s * c

  product_under : product ≤ 2 ^ 29 * 3150000
  product_under = le_of_mul-le-mul_right {k = 2 ^ s} (le_trans (le_of_eq (mul_right_comm (a / 2 ^ s) c (2 ^ s)))
      (le_trans (mul-le-mul (div-mul-le_self a (2 ^ s)) (le_refl c)) high)) (pow_pos s)

  pub scaled_fits : Fits w64 product
  scaled_fits = record { fits = lt_of_le_of_lt product_under (lit< tt) }

  abbrev Q : ℕ
  Q = product / 3150000

  quotient_under : Q ≤ 2 ^ 29
  quotient_under = div-le_of_le-mul 3150000 product_under

  pub raised_quotient_fits : SFits w64 (pos Q)
  raised_quotient_fits = record { sfits = lt_of_le_of_lt quotient_under (lit< tt) }

  abbrev lowered : Held (to_z w64 Q -ℤ pos 268435456)
  lowered = held_add (held_count w64 Q (record { bound = 2 ^ 29 + 1; under = suc-le-suc quotient_under })) (held_neg (held_pos {n = 268435456} refl))

  pub off_fits : SFits w64 (to_z w64 Q -ℤ pos 268435456)
  off_fits = fits! lowered tt

  off_size : nat_abs (pos Q -ℤ pos 268435456) ≤ 2 ^ 28
  off_size = abs_within (2 ^ 28) (pos Q -ℤ pos 268435456)
      (le_by (pos Q ∷ []) (natural Q) (search sides depth 20) refl)
      (le_by (pos Q ∷ []) (gap (pos_le quotient_under)) (search sides depth 20) refl)

  pub rounded_down_law : RoundedDown s c n (stored w64 (to_z w64 Q -ℤ pos 268435456))
  rounded_down_law = record {
    of = λ m scaled.
        let e = is! (held_stored w64 _ lowered) tt in
        record {
          is = e ∙ ap (λ z. z -ℤ pos 268435456) (ap (λ z. pos (nat_abs z / 2 ^ s * c / 3150000)) (to_z-of_z hn)
              ∙ ap pos (quotient_is m c scaled (nat_abs n) s) ∙ sym (floor_natural n m s some.holds));
          size = subst (λ z. nat_abs z ≤ 2 ^ 28) (sym e) off_size;
        };
  }

-- ---- what a start is raised by, as the code shifts it
module _ {m s : ℕ} (most : m ≤ 8) (shallow : s ≤ 20) where
  pub raise_most : nat_abs (raise_of m s) ≤ 2 ^ 28 * (625 * 8 * 2 ^ 20)
  raise_most = mul-le-mul (le_refl (2 ^ 28)) (mul-le-mul (mul-le-mul (le_refl 625) most) (pow_mono shallow))

  abbrev pub unshifted : ℤ
  unshifted = pos 268435456 *ℤ stored w64 (pos 625 *ℤ to_z w64 m)

  abbrev pub shifted_raise : ℤ
  shifted_raise = to_z w64 (of_z w64 unshifted * 2 ^ s % 2 ^ 64)

  pub raise_shifted : shifted_raise ≡ raise_of m s
  raise_shifted =
      is! (held_left shallow {x = unshifted} (search (pieces most, bounded) depth 40) (natural (268435456 * (625 * m)))) tt
      ∙ ap pos (mul_assoc 268435456 (625 * m) (2 ^ s))

  abbrev pub held_raise : Held shifted_raise
  held_raise = record {
    value = raise_of m s;
    bound = 2 ^ 28 * (625 * 8 * 2 ^ 20);
    test = true;
    is = λ u. raise_shifted;
    under = λ u. raise_most;
  }
