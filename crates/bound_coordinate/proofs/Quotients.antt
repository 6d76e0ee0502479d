-- Division by 625 m and by a power of 2, rounded down, as the code computes it: shifted, multiplied by 5040 / m, raised, divided by 3150000. Rounded
-- up it is the same of one less than the divisor more.
use mathlib.Core.Path.{◌≡◌, refl, sym, ◌∙◌, ap, subst}
use mathlib.Core.Bool.{true}
use mathlib.Core.List.{[], ◌∷◌}
use Prim.Native.Nat.{ℕ, zero, suc, ◌*◌, ◌/◌, ◌^◌, ◌≤◌, ◌<◌, zero-le, suc-le-suc}
use native.Mathlib.Nat.{le_trans, le_refl, le_of_eq, lt_of_le_of_lt, mul-le-mul, mul_assoc, mul_comm, div-le_self}
use native.Mathlib.Omega.{arith}
use lib.Dec.{T, lit<}
use lib.Pow.{pow_pos}
use lib.IntN.{ℤ, pos, negsuc, nat_abs, ◌+ℤ◌, ◌-ℤ◌, ◌*ℤ◌}
use lib.Signed.{shr_z, non_neg, ◌<ℤ◌, lt_z_yes}
use mir.Syntax.{w64}
use mir.Val.{Fits, SFits, to_z}
use mir.Facts.{to_z-of_z, to_z_pos}
use Rattle.integers.specs.Rounding.{floor, ceiling}
use Rattle.integers.proofs.Ring.{ring, sides}
use Rattle.integers.proofs.Ranges.{stored}
use Rattle.integers.proofs.Order.{NonNeg, gap, gap<, nonneg_by, le_by, lt_by, pos_lt, times_positive}
use Rattle.integers.proofs.Machine.{Held, Count, fits!, is!, unsigned!, unsigned_is!, held_pos, held_count, held_mul, held_add, held_stored}
use Rattle.integers.proofs.Size.{abs_high, abs_low, abs_mul, fits_size}
use Rattle.integers.proofs.Rounding.{floor_is, ceiling_unique, floor_floor, floor_raised, floor_scale, floor_size, shift_floor}
use Rattle.integers.proofs.Table.{below}
use Rattle.bound_coordinate.specs.Inside.{Computed}
use Rattle.bound_coordinate.specs.Terms.{denominator_of}

-- the machine's quotient of a number that is not negative
unsigned_floor : (z : ℤ) (d : ℕ) → NonNeg z → pos (nat_abs z / d) ≡ floor z (pos d)
unfolding floor
unsigned_floor (pos a) d h = refl
unsigned_floor (negsuc a) d h = absurd h.holds

-- one less than the divisor more, rounded down, is rounded up
pub ceiling_raised : (n : ℤ) {d : ℤ} → pos 0 <ℤ d → floor (n +ℤ (d -ℤ pos 1)) d ≡ ceiling n d
ceiling_raised n {d} hd =
    let q = floor (n +ℤ (d -ℤ pos 1)) d in
    let f = floor_is (n +ℤ (d -ℤ pos 1)) d hd in
    ceiling_unique hd (record {
      below = lt_by (n ∷ d ∷ q ∷ []) (gap f.below) (search sides depth 20) refl;
      above = le_by (n ∷ d ∷ q ∷ []) (gap< f.above) (search sides depth 20) refl;
    })

-- ---- the divisor is positive
pub factor_some : (a b : ℕ) → a * b ≡ 5040 → 0 < b
factor_some a zero e = absurd (omega arith)
factor_some a (suc b) e = suc-le-suc zero-le

divisor_positive : {m : ℕ} → 0 < m → pos 0 <ℤ (pos 625 *ℤ pos m)
divisor_positive some = times_positive {x = pos 625} (lt_z_yes tt) (pos_lt some)

pub denominator_positive : {m : ℕ} → 0 < m → (s : ℕ) → pos 0 <ℤ denominator_of m s
denominator_positive some s = times_positive (divisor_positive some) (pos_lt (pow_pos s))

module _ (n : ℤ) (m s c : ℕ) (h : nat_abs n ≤ 625 * 2 ^ 28 * (m * 2 ^ s)) (scaled : c * m ≡ 5040) (most : m ≤ 48) where
  some : 0 < m
  some = factor_some c m scaled

  pub scale_small : c ≤ 5040
  scale_small = le_trans (omega (arith, mul-le-mul (le_refl c) some)) (le_of_eq scaled)

  power : pos 0 <ℤ pos (2 ^ s)
  power = pos_lt (pow_pos s)

  divisor : pos 0 <ℤ (pos 625 *ℤ pos m)
  divisor = divisor_positive some

  abbrev x : ℤ
  x = shr_z n (2 ^ s)

  shifted_size : nat_abs x ≤ 625 * 2 ^ 28 * m
  shifted_size = rw (shift_floor n (2 ^ s)) (floor_size (625 * 2 ^ 28 * m) {n = n} {d = pos (2 ^ s)} power
      (le_by (pos m ∷ pos (2 ^ s) ∷ n ∷ []) (gap (abs_high n h)) (search sides depth 20) refl)
      (le_by (pos m ∷ pos (2 ^ s) ∷ n ∷ []) (gap (abs_low n h)) (search sides depth 20) refl))

  product_size : nat_abs (x *ℤ pos c) ≤ 625 * 2 ^ 28 * 5040
  product_size = le_trans (le_of_eq (abs_mul x (pos c))) (le_trans (mul-le-mul shifted_size (le_refl c))
      (le_of_eq (mul_assoc (625 * 2 ^ 28) m c ∙ ap (λ k. 625 * 2 ^ 28 * k) (mul_comm m c ∙ scaled))))

  -- ---- the rounded number
  abbrev F : ℤ
  F = floor n (denominator_of m s)

  small : nat_abs F ≤ 2 ^ 28
  small = floor_size (2 ^ 28) {n = n} {d = denominator_of m s} (denominator_positive some s)
      (le_by (n ∷ pos m ∷ pos (2 ^ s) ∷ []) (gap (abs_high n h)) (search sides depth 20) refl)
      (le_by (n ∷ pos m ∷ pos (2 ^ s) ∷ []) (gap (abs_low n h)) (search sides depth 20) refl)

  divisor_is : pos 3150000 ≡ pos c *ℤ (pos 625 *ℤ pos m)
  divisor_is =
      ap (λ (k : ℕ). pos 625 *ℤ pos k) (sym scaled) ∙ ring (pos c ∷ pos m ∷ []) {a = pos 625 *ℤ (pos c *ℤ pos m)} (search sides depth 20) refl

  raised_some : NonNeg (pos 845571686400000 +ℤ x *ℤ pos c)
  raised_some = nonneg_by (x ∷ pos c ∷ []) (gap (abs_low (x *ℤ pos c) product_size)) (search sides depth 20) refl

  raised_quotient : pos (nat_abs (pos 845571686400000 +ℤ x *ℤ pos c) / 3150000) ≡ pos 268435456 +ℤ F
  raised_quotient =
      unsigned_floor (pos 845571686400000 +ℤ x *ℤ pos c) 3150000 raised_some
      ∙ floor_raised {d = pos 3150000} (lt_z_yes tt) (pos 268435456) (x *ℤ pos c)
      ∙ ap (λ z. pos 268435456 +ℤ z)
      (ap (floor (x *ℤ pos c)) divisor_is
      ∙ ap (λ z. floor z (pos c *ℤ (pos 625 *ℤ pos m))) (ring (x ∷ pos c ∷ []) {a = x *ℤ pos c} {b = pos c *ℤ x} (search sides depth 20) refl)
      ∙ floor_scale divisor {k = pos c} (pos_lt (factor_some m c (mul_comm m c ∙ scaled))) x
      ∙ ap (λ z. floor z (pos 625 *ℤ pos m)) (shift_floor n (2 ^ s))
      ∙ floor_floor power divisor n)

  -- ---- as the machine has it
  module _ (hn : SFits w64 n) where
    abbrev shifted : Held (stored w64 (shr_z (stored w64 n) (2 ^ s)))
    shifted = held_stored w64 (shr_z (stored w64 n) (2 ^ s)) (record {
      value = x;
      bound = 625 * 2 ^ 28 * 48;
      test = true;
      is = λ t. ap (λ z. shr_z z (2 ^ s)) (to_z-of_z hn);
      under = λ t. le_trans shifted_size (mul-le-mul (le_refl (625 * 2 ^ 28)) most);
    })

    abbrev scale : Count c
    scale = record { bound = 5041; under = suc-le-suc scale_small }

    abbrev product : Held (stored w64 (shr_z (stored w64 n) (2 ^ s)) *ℤ to_z w64 c)
    product = held_mul {x = stored w64 (shr_z (stored w64 n) (2 ^ s))} {y = to_z w64 c} shifted (held_count w64 c scale)

    pub product_fits : SFits w64 (stored w64 (shr_z (stored w64 n) (2 ^ s)) *ℤ to_z w64 c)
    product_fits = fits! product tt

    abbrev Y : ℤ
    Y = stored w64 (stored w64 (shr_z (stored w64 n) (2 ^ s)) *ℤ to_z w64 c)

    abbrev sum : Held (pos 845571686400000 +ℤ Y)
    sum = held_add {x = pos 845571686400000} {y = Y} (held_pos {n = 845571686400000} refl) (held_stored w64 _ product)

    pub sum_fits : SFits w64 (pos 845571686400000 +ℤ Y)
    sum_fits = fits! sum tt

    -- the machine divides what is not negative
    abbrev Z : ℤ
    Z = stored w64 (pos 845571686400000 +ℤ Y)

    abbrev raised : Held Z
    raised = held_stored w64 (pos 845571686400000 +ℤ Y) sum

    pub raised_unsigned : T (non_neg Z) × Fits w64 (nat_abs Z)
    raised_unsigned = unsigned! Z raised tt raised_some

    pub quotient_fits : nat_abs Z / 3150000 < 2 ^ 63
    quotient_fits = lt_of_le_of_lt (div-le_self (nat_abs Z) 3150000) (rw (unsigned_is! Z raised tt) (lt_of_le_of_lt (raised.under tt) (lit< tt)))

    abbrev Q : ℤ
    Q = to_z w64 (nat_abs Z / 3150000)

    quotient_is : Q ≡ pos 268435456 +ℤ F
    quotient_is = to_z_pos w64 quotient_fits ∙ ap (λ z. pos (nat_abs z / 3150000)) (is! raised tt) ∙ raised_quotient

    lowered_is : Q -ℤ pos 268435456 ≡ F
    lowered_is = ap (λ z. z -ℤ pos 268435456) quotient_is ∙ ring (F ∷ []) {a = pos 268435456 +ℤ F -ℤ pos 268435456} (search sides depth 20) refl

    pub lowered_fits : SFits w64 (Q -ℤ pos 268435456)
    lowered_fits = rw lowered_is (fits_size {w = w64} {z = F} (record { bound = 2 ^ 28; under = small }) tt)

    pub lowered : Computed (2 ^ 28) F (stored w64 (Q -ℤ pos 268435456))
    lowered =
        let e = to_z-of_z lowered_fits ∙ lowered_is in
        record { is = e; size = subst (λ z. nat_abs z ≤ 2 ^ 28) (sym e) small }
