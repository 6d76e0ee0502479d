-- Straight-line code on signed numbers: each step fits its width, and the machine holds the formula's value, both by one computed test. A signed
-- local is its bits, so a goal speaks of `stored w z`, which is `to_z w (of_z w z)`. `search machine` reads such a term as a formula, with a bound on
-- each part, from `Size x`, `SFits w x` or `Count n` of the numbers that the code starts from:
--     overflow_mul-result c = fits! (search (machine, c.ranges.a, c.ranges.b) depth 40) tt
--     returns c = is! (search (machine, c.ranges.a, c.ranges.b) depth 40) tt
-- `fits!` shows that a step fits, `is!` that what is held equals the formula, `by!` carries a fact of the formula over, `unsigned!` and
-- `unsigned_is!` answer a cast to an unsigned type, and `flag!` reads what a comparison said. `equal` of Ranges.antt reads what a test of equality
-- said.
use mathlib.Core.Path.{◌≡◌, refl, sym, ◌∙◌, ap, ap₂, subst}
use mathlib.Core.Bool.{Bool, true, ◌&&◌}
use Prim.Native.Nat.{ℕ, suc, pred, ◌/◌, ◌%◌, ◌^◌, ◌≤◌, ◌<◌, suc-le-suc, ◌+◌, ◌*◌}
use native.Mathlib.Nat.{le_refl, le_trans, le_of_eq, add-le-add, mul-le-mul, div-le_self, mod-le, le-pred_of_lt, lt_of_lt_of_le, lt_of_le_of_lt}
use lib.Dec.{T, leb, ltb, leb→le, ltb→lt}
use lib.IntN.{ℤ, pos, negsuc, neg_ℤ, nat_abs, ◌+ℤ◌, ◌*ℤ◌}
use lib.Signed.{nat_abs-le, quot_z, rem_z, shr_z, lt_z, le_z, non_neg}
use mir.Syntax.{Width}
use mir.Val.{Fits, SFits, bits, hbits, to_z}
use mir.Facts.{to_z-of_z, to_z_pos}
use Rattle.integers.proofs.Order.{NonNeg}
use Rattle.integers.proofs.Ranges.{stored}
use Rattle.integers.proofs.Size.{Size, abs_neg, abs_add, abs_mul, fits_size}
use Rattle.integers.proofs.Table.{and_left, and_right}

-- z as the machine has it: the formula's value and a bound on it, both right where the test passes
pub record Held (z : ℤ) : Type 0 where
  pub value : ℤ
  pub bound : ℕ
  pub test : Bool
  pub is : T test → z ≡ value
  pub under : T test → nat_abs value ≤ bound

-- ---- what is answered by it
module _ {z : ℤ} (s : Held z) where
  pub fits_in : (w : Width) → T (s.test && ltb s.bound (2 ^ hbits w)) → SFits w z
  fits_in w t =
      let u = and_left s.test (ltb s.bound (2 ^ hbits w)) t in
      subst (SFits w) (sym (s.is u))
      (fits_size (record { bound = s.bound; under = s.under u }) (and_right s.test (ltb s.bound (2 ^ hbits w)) t))

  pub fits! : {w : Width} → T (s.test && ltb s.bound (2 ^ hbits w)) → SFits w z
  fits! {w} t = fits_in w t

  pub is! : T s.test → z ≡ s.value
  is! t = s.is t

pub by! : (X : ℤ → Type 0) {z : ℤ} (s : Held z) → T s.test → X s.value → X z
by! X s t h = subst X (sym (s.is t)) h

-- a cast of z to an unsigned type of w bits, and what it gives
pub unsigned! : {w : Width} (z : ℤ) (s : Held z) → T (s.test && ltb s.bound (2 ^ bits w)) → NonNeg s.value → T (non_neg z) × Fits w (nat_abs z)
unsigned! {w} z s t h =
    let u = and_left s.test (ltb s.bound (2 ^ bits w)) t in
    let e = sym (s.is u) in (
      subst (λ x. T (non_neg x)) e h.holds,
      record {
        fits = subst (λ x. nat_abs x < 2 ^ bits w) e
            (lt_of_le_of_lt (s.under u) (ltb→lt s.bound (2 ^ bits w) (and_right s.test (ltb s.bound (2 ^ bits w)) t)));
      },
    )

pub unsigned_is! : (z : ℤ) (s : Held z) → T s.test → nat_abs z ≡ nat_abs s.value
unsigned_is! z s t = ap nat_abs (s.is t)

-- ---- read by `search`: numbers that the code starts from
abbrev pub held_size : {z : ℤ} → Size z → Held z
held_size {z} s = record { value = z; bound = s.bound; test = true; is = λ t. refl; under = λ t. s.under }

abbrev pub held_pos : {n : ℕ} → leb 0 n ≡ true → Held (pos n)
held_pos {n} h = record { value = pos n; bound = n; test = true; is = λ t. refl; under = λ t. le_refl n }

abbrev pub held_negsuc : {n : ℕ} → leb 0 n ≡ true → Held (negsuc n)
held_negsuc {n} h = record { value = negsuc n; bound = suc n; test = true; is = λ t. refl; under = λ t. le_refl (suc n) }

-- what is known to fit, as a parameter is (`c.fits.x`), with the width's own bound
abbrev pub held_parameter : (w : Width) (z : ℤ) → SFits w z → Held (stored w z)
held_parameter w z h = record { value = z; bound = 2 ^ hbits w; test = true; is = λ t. to_z-of_z h; under = λ t. nat_abs-le z h.sfits }

-- an unsigned number that was cast
pub record Count (n : ℕ) : Type 0 where
  pub bound : ℕ
  pub under : n < bound

abbrev pub count_of : {w : Width} {n : ℕ} → Fits w n → Count n
count_of {w} h = record { bound = 2 ^ bits w; under = h.fits }

abbrev pub held_count : (w : Width) (n : ℕ) → Count n → Held (to_z w n)
held_count w n s = record {
  value = pos n;
  bound = pred s.bound;
  test = leb s.bound (2 ^ hbits w);
  is = λ t. to_z_pos w (lt_of_lt_of_le s.under (leb→le s.bound (2 ^ hbits w) t));
  under = λ t. le-pred_of_lt s.under;
}

-- ---- what is kept in w bits and read again
abbrev pub held_stored : (w : Width) (z : ℤ) → Held z → Held (stored w z)
held_stored w z s = record {
  value = s.value;
  bound = s.bound;
  test = s.test && ltb s.bound (2 ^ hbits w);
  is = λ t. to_z-of_z (fits_in s w t) ∙ s.is (and_left s.test (ltb s.bound (2 ^ hbits w)) t);
  under = λ t. s.under (and_left s.test (ltb s.bound (2 ^ hbits w)) t);
}

-- ---- one operand
abbrev pub held_neg : {x : ℤ} → Held x → Held (neg_ℤ x)
held_neg s = record {
  value = neg_ℤ s.value;
  bound = s.bound;
  test = s.test;
  is = λ u. ap neg_ℤ (s.is u);
  under = λ u. le_trans (le_of_eq (abs_neg s.value)) (s.under u);
}

pub abs_shift : (x : ℤ) (m : ℕ) → nat_abs (shr_z x m) ≤ nat_abs x
abs_shift (pos a) m = div-le_self a m
abs_shift (negsuc a) m = suc-le-suc (div-le_self a m)

abbrev pub held_shift : {x : ℤ} (m : ℕ) → Held x → Held (shr_z x m)
held_shift m s = record {
  value = shr_z s.value m;
  bound = s.bound;
  test = s.test;
  is = λ u. ap (λ (z : ℤ). shr_z z m) (s.is u);
  under = λ u. le_trans (abs_shift s.value m) (s.under u);
}

-- ---- two operands: an operation, with a bound of its result from bounds of the operands
abbrev pub held_by_law : (op : ℤ → ℤ → ℤ) (size : ℕ → ℕ → ℕ)
    → ((x y : ℤ) (m n : ℕ) → nat_abs x ≤ m → nat_abs y ≤ n → nat_abs (op x y) ≤ size m n)
    → {x y : ℤ} → Held x → Held y → Held (op x y)
held_by_law op size law s t = record {
  value = op s.value t.value;
  bound = size s.bound t.bound;
  test = s.test && t.test;
  is = λ u. ap₂ op (s.is (and_left s.test t.test u)) (t.is (and_right s.test t.test u));
  under = λ u. law s.value t.value s.bound t.bound
      (s.under (and_left s.test t.test u)) (t.under (and_right s.test t.test u));
}

abbrev pub held_add : {x y : ℤ} → Held x → Held y → Held (x +ℤ y)
held_add = held_by_law ◌+ℤ◌ ◌+◌ (λ x y m n h k. le_trans (abs_add x y) (add-le-add h k))

abbrev pub held_mul : {x y : ℤ} → Held x → Held y → Held (x *ℤ y)
held_mul = held_by_law ◌*ℤ◌ ◌*◌ (λ x y m n h k. le_trans (le_of_eq (abs_mul x y)) (mul-le-mul h k))

pub abs_quotient : (x y : ℤ) → nat_abs (quot_z x y) ≤ nat_abs x
abs_quotient (pos a) (pos b) = div-le_self a b
abs_quotient (pos a) (negsuc b) = le_trans (le_of_eq (abs_neg (pos (a / suc b)))) (div-le_self a (suc b))
abs_quotient (negsuc a) (pos b) = le_trans (le_of_eq (abs_neg (pos (suc a / b)))) (div-le_self (suc a) b)
abs_quotient (negsuc a) (negsuc b) = div-le_self (suc a) (suc b)

abbrev pub held_quotient : {x y : ℤ} → Held x → Held y → Held (quot_z x y)
held_quotient = held_by_law quot_z (λ m n. m) (λ x y m n h k. le_trans (abs_quotient x y) h)

pub abs_remainder : (x y : ℤ) → nat_abs (rem_z x y) ≤ nat_abs x
abs_remainder (pos a) y = mod-le a (nat_abs y)
abs_remainder (negsuc a) y = le_trans (le_of_eq (abs_neg (pos (suc a % nat_abs y)))) (mod-le (suc a) (nat_abs y))

abbrev pub held_remainder : {x y : ℤ} → Held x → Held y → Held (rem_z x y)
held_remainder = held_by_law rem_z (λ m n. m) (λ x y m n h k. le_trans (abs_remainder x y) h)

pub ruleset machine = (held_add, held_mul, held_neg, held_stored, held_parameter, held_count, held_quotient, held_remainder, held_shift, held_pos, held_negsuc, held_size)

-- ---- a comparison, read in the same way: `lt_yes (flag! c.if1.taken (search (tests, ..) depth 40) tt) : a <ℤ b`
pub record Test (b : Bool) : Type 0 where
  pub value : Bool
  pub test : Bool
  pub is : T test → b ≡ value

abbrev pub test_by : (op : ℤ → ℤ → Bool) {x y : ℤ} → Held x → Held y → Test (op x y)
test_by op s t = record {
  value = op s.value t.value;
  test = s.test && t.test;
  is = λ u. ap₂ op (s.is (and_left s.test t.test u)) (t.is (and_right s.test t.test u));
}

abbrev pub test_lt : {x y : ℤ} → Held x → Held y → Test (lt_z x y)
test_lt = test_by lt_z

abbrev pub test_le : {x y : ℤ} → Held x → Held y → Test (le_z x y)
test_le = test_by le_z

pub ruleset tests = (test_lt, test_le, machine)

pub flag! : {b v : Bool} → b ≡ v → (s : Test b) → T s.test → s.value ≡ v
flag! e s t = sym (s.is t) ∙ e
