-- The tests that the code makes, and what they say of every f64: `x == 0.0` that it is a zero of either sign, a comparison with 2^k or −2^k how it lies to
-- that.
use Rattle.std.proofs.Common.{◌≡◌, ℕ, zero, suc, ◌+◌, ◌*◌, ◌/◌, ◌%◌, ◌^◌, ◌<◌, ◌≤◌, Bool, true, false, ◌&&◌, ◌||◌, T, eqb, ltb, leb, ℤ, pos, sym, refl, ap, ◌∙◌, subst, true≢false, le_of_eq, add-zero, le_of_lt, zero-lt-suc, lt_of_mul-lt-mul_right, mul-pos, div-add-mod', mul-one, arith, eqb→eq, ltb→lt, pow_pos, ltb-false}
use mathlib.Core.Bool.{false≢true}
use lib.Ieee.{Float, fin, Format, prec, emax, low, up, down, le, fits}
use lib.Ieee.Fits.{and_l, and_r, eq→eqb, down_pos}

-- ---- of a number m * 2 ^ e: what is over a whole number, and the whole number, both in size
abbrev pub over : ℕ → ℤ → ℕ
over m e = m * up e % down e

abbrev pub part : ℕ → ℤ → ℕ
part m e = m * up e / down e

-- ---- two things that an f64's digits and exponent keep to
pub few_digits : (f : Format) (s : Bool) (m : ℕ) (e : ℤ) → T (fits f (fin s m e)) → m < 2 ^ prec f
unfolding fits
few_digits f s zero e t = pow_pos (prec f)
few_digits f s (suc m) e t =
    let a = eqb (suc m % 2) 1 in
    let b = ltb (suc m) (2 ^ prec f) in
    let c = leb (down e) (2 ^ low f) in
    ltb→lt (suc m) (2 ^ prec f) (and_r a b (and_l (a && b) c (and_l (a && b && c) (ltb (suc m * up e) (2 ^ suc (emax f) * down e)) t)))

-- ---- two tests that pass for the same reason are one Bool
pub one_test : (a b : Bool) → (T a → T b) → (T b → T a) → a ≡ b
one_test true true p q = refl
one_test true false p q = absurd (p tt)
one_test false true p q = absurd (q tt)
one_test false false p q = refl

pub or_r : (a b : Bool) → T b → T (a || b)
or_r true b t = tt
or_r false b t = t

-- ---- comparisons with -2 ^ k and 2 ^ k
or_false_l : (a b : Bool) → (a || b) ≡ false → a ≡ false
or_false_l true b h = h
or_false_l false b h = refl

or_false_r : (a b : Bool) → (a || b) ≡ false → b ≡ false
or_false_r true b h = absurd (true≢false h)
or_false_r false b h = h

and_true : (a : Bool) → (a && true) ≡ false → a ≡ false
and_true true h = h
and_true false h = refl

-- x is a ≤ b tested as "below or level", which is how `<=` goes
pub or_le : (a b : ℕ) (y : Bool) → (T y → a ≡ b) → (ltb a b || (y && true)) ≡ true → a ≤ b
or_le a b y q h = go (ltb a b) y (ltb→lt a b) q h
  where
    go : (x y : Bool) → (T x → a < b) → (T y → a ≡ b) → (x || (y && true)) ≡ true → a ≤ b
    go true y p q h = le_of_lt (p tt)
    go false true p q h = le_of_eq (q tt)
    go false false p q h = absurd (false≢true h)

or_gt : (a b : ℕ) (y : Bool) → (a ≡ b → T y) → (ltb a b || (y && true)) ≡ false → b < a
or_gt a b y q h = step (ltb-false a b (or_false_l (ltb a b) (y && true) h)) (λ k. subst T (and_true y (or_false_r (ltb a b) (y && true) h)) (q k))
  where
    step : b ≤ a → (a ≡ b → ⊥) → b < a
    step p q = omega arith

no_sum : (a b : ℕ) → 0 < a → a + b ≤ 0 → ⊥
no_sum a b p h = omega arith

pub no_sum_r : (a b : ℕ) → 0 < b → a + b ≤ 0 → ⊥
no_sum_r a b p h = omega arith

-- -2 ^ k and 2 ^ k as f64, and 2 ^ k in units of 1 / down e
abbrev pub low_end_law : ℕ → Float
low_end_law k = fin true 1 (pos k)

abbrev pub high_end_law : ℕ → Float
high_end_law k = fin false 1 (pos k)

abbrev pub bound : ℕ → ℤ → ℕ
bound k e = 1 * 2 ^ k * down e

pub bound_pos : (k : ℕ) (e : ℤ) → 0 < bound k e
bound_pos k e = mul-pos (mul-pos (zero-lt-suc 0) (pow_pos k)) (down_pos e)

pub within : (k : ℕ) (s : Bool) (m : ℕ) (e : ℤ) → le (low_end_law k) (fin s m e) ≡ true → le (fin s m e) (high_end_law k) ≡ true → m * up e ≤ bound k e
unfolding le
within k false m e p q = rw mul-one at (or_le (m * up e * 1) (bound k e) (eqb (m * up e * 1) (bound k e)) (eqb→eq (m * up e * 1) (bound k e)) q)
within k true m e p q = rw mul-one at (or_le (m * up e * 1) (bound k e) (eqb (bound k e) (m * up e * 1)) (λ t. sym (eqb→eq (bound k e) (m * up e * 1) t)) p)

pub beyond_low : (k : ℕ) (s : Bool) (m : ℕ) (e : ℤ) → le (low_end_law k) (fin s m e) ≡ false → bound k e < m * up e
unfolding le
beyond_low k false m e p =
    absurd (no_sum (bound k e) (m * up e * 1) (bound_pos k e) (ltb-false 0 (bound k e + m * up e * 1) (or_false_l (ltb 0 (bound k e + m * up e * 1)) (eqb (bound k e) (m * up e * 1) && (false || eqb (bound k e) 0)) p)))
beyond_low k true m e p = rw mul-one at (or_gt (m * up e * 1) (bound k e) (eqb (bound k e) (m * up e * 1)) (λ t. eq→eqb (sym t)) p)

pub beyond_high : (k : ℕ) (s : Bool) (m : ℕ) (e : ℤ) → le (fin s m e) (high_end_law k) ≡ false → bound k e < m * up e
unfolding le
beyond_high k false m e p = rw mul-one at (or_gt (m * up e * 1) (bound k e) (eqb (m * up e * 1) (bound k e)) (λ t. eq→eqb t) p)
beyond_high k true m e p =
    absurd (no_sum_r (m * up e * 1) (bound k e) (bound_pos k e) (ltb-false 0 (m * up e * 1 + bound k e) (or_false_l (ltb 0 (m * up e * 1 + bound k e)) (eqb (m * up e * 1) (bound k e) && (false || eqb (m * up e * 1) 0)) p)))

-- a whole number is its whole part
pub whole_part : (m : ℕ) (e : ℤ) → over m e ≡ 0 → m * up e ≡ part m e * down e
whole_part m e z = sym (div-add-mod' (m * up e) (down e)) ∙ ap (λ (x : ℕ). part m e * down e + x) z ∙ add-zero (part m e * down e)

pub part_beyond : (k m : ℕ) (e : ℤ) → over m e ≡ 0 → bound k e < m * up e → 1 * 2 ^ k < part m e
part_beyond k m e z h = lt_of_mul-lt-mul_right (down e) (subst (λ (x : ℕ). bound k e < x) (whole_part m e z) h)
