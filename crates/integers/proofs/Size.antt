-- How large a number can get, computed from its text by `search`.
--     fits_size (search sizes depth 20) tt : SFits w64 (r *ℤ a +ℤ p *ℤ b)
-- with `Size p` and so on among the hypotheses. `size_of` makes one of `mag p < 2 ^ 30`.
use mathlib.Core.Path.{◌≡◌, refl}
use mathlib.Core.Bool.{true}
use Prim.Native.Nat.{ℕ, zero, suc, ◌+◌, ◌*◌, ◌-◌, ◌^◌, ◌≤◌, ◌<◌, zero-le, suc-le-suc}
use native.Mathlib.Nat.{le_refl, le_trans, le_of_eq, add-le-add, mul-le-mul, lt_of_le_of_lt, le-suc, le_of_suc-le-suc, not-suc-le-zero}
use native.Mathlib.Omega.{arith}
use lib.Dec.{T, leb, ltb, ltb→lt, leb→le, le→leb}
use lib.IntN.{ℤ, pos, negsuc, neg_ℤ, nat_abs, sub_ℕ, ◌+ℤ◌, ◌*ℤ◌}
use lib.Signed.{mag, nat_abs-le, ◌≤ℤ◌, le_z_yes}
use mir.Syntax.{Width}
use mir.Val.{SFits, hbits}
use Rattle.integers.proofs.Order.{cond_cases, le_pos, pos_le}

pub record Size (z : ℤ) : Type 0 where
  pub bound : ℕ
  pub under : nat_abs z ≤ bound

-- ---- the absolute value of a sum and of a product
pub abs_neg : (z : ℤ) → nat_abs (neg_ℤ z) ≡ nat_abs z
abs_neg (pos zero) = refl
abs_neg (pos (suc n)) = refl
abs_neg (negsuc n) = refl

abs_sub : (a b : ℕ) → nat_abs (sub_ℕ a b) ≤ a + b
abs_sub a b = cond_cases (ltb a b) (negsuc (b - suc a)) (pos (a - b)) (λ z. nat_abs z ≤ a + b) (λ t. less (ltb→lt a b t)) (λ t. more)
  where
    less : a < b → suc (b - suc a) ≤ a + b
    less h = omega arith

    more : a - b ≤ a + b
    more = omega arith

pub abs_add : (x y : ℤ) → nat_abs (x +ℤ y) ≤ nat_abs x + nat_abs y
abs_add (pos a) (pos b) = le_refl (a + b)
abs_add (pos a) (negsuc b) = abs_sub a (suc b)
abs_add (negsuc a) (pos b) = le_trans (abs_sub b (suc a)) (turn a b)
  where
    turn : (a b : ℕ) → b + suc a ≤ suc a + b
    turn a b = omega arith
abs_add (negsuc a) (negsuc b) = both a b
  where
    both : (a b : ℕ) → suc (suc (a + b)) ≤ suc a + suc b
    both a b = omega arith

pub abs_mul : (x y : ℤ) → nat_abs (x *ℤ y) ≡ nat_abs x * nat_abs y
abs_mul (pos a) (pos b) = refl
abs_mul (pos a) (negsuc b) = abs_neg (pos (a * suc b))
abs_mul (negsuc a) (pos b) = abs_neg (pos (suc a * b))
abs_mul (negsuc a) (negsuc b) = refl

-- ---- read by `search`
abbrev pub size_pos : {n : ℕ} → leb 0 n ≡ true → Size (pos n)
size_pos {n} h = record { bound = n; under = le_refl n }

abbrev pub size_negsuc : {n : ℕ} → leb 0 n ≡ true → Size (negsuc n)
size_negsuc {n} h = record { bound = suc n; under = le_refl (suc n) }

abbrev pub size_add : {x y : ℤ} → Size x → Size y → Size (x +ℤ y)
size_add {x} {y} s t = record { bound = s.bound + t.bound; under = le_trans (abs_add x y) (add-le-add s.under t.under) }

abbrev pub size_mul : {x y : ℤ} → Size x → Size y → Size (x *ℤ y)
size_mul {x} {y} s t = record { bound = s.bound * t.bound; under = le_trans (le_of_eq (abs_mul x y)) (mul-le-mul s.under t.under) }

abbrev pub size_neg : {x : ℤ} → Size x → Size (neg_ℤ x)
size_neg {x} s = record { bound = s.bound; under = le_trans (le_of_eq (abs_neg x)) s.under }

pub ruleset sizes = (size_add, size_mul, size_neg, size_pos, size_negsuc)

-- ---- from a bound, and to a width
abbrev pub size_of : (z : ℤ) {B : ℕ} → mag z < B → Size z
size_of z {B} h = record { bound = B; under = nat_abs-le z h }

pub abs_within : (B : ℕ) (z : ℤ) → neg_ℤ (pos B) ≤ℤ z → z ≤ℤ pos B → nat_abs z ≤ B
abs_within B (pos n) l h = le_pos h
abs_within zero (negsuc n) l h = absurd l.le
abs_within (suc B) (negsuc n) l h = suc-le-suc (leb→le n B l.le)

pub abs_high : {B : ℕ} (z : ℤ) → nat_abs z ≤ B → z ≤ℤ pos B
abs_high (pos n) h = pos_le h
abs_high (negsuc n) h = le_z_yes tt

pub abs_low : {B : ℕ} (z : ℤ) → nat_abs z ≤ B → neg_ℤ (pos B) ≤ℤ z
abs_low {B = zero} (pos n) h = pos_le zero-le
abs_low {B = suc B} (pos n) h = le_z_yes tt
abs_low {B = zero} (negsuc n) h = absurd (not-suc-le-zero h)
abs_low {B = suc B} (negsuc n) h = le_z_yes (le→leb n B (le_of_suc-le-suc h))

pub mag_abs : (z : ℤ) → mag z ≤ nat_abs z
mag_abs (pos n) = le_refl n
mag_abs (negsuc n) = le-suc n

pub fits_size : {w : Width} {z : ℤ} (s : Size z) → T (ltb s.bound (2 ^ hbits w)) → SFits w z
fits_size {w} {z} s t = record { sfits = lt_of_le_of_lt (le_trans (mag_abs z) s.under) (ltb→lt s.bound (2 ^ hbits w) t) }
