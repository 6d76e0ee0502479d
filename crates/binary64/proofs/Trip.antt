-- `is_whole`: cut to a whole number and made an f64 again, an f64 comes back as it was exactly where it is a whole number, and one beyond 2 ^ 63
-- is one in any case.
use Rattle.std.proofs.Common.{◌≡◌, ℕ, zero, suc, ◌+◌, ◌-◌, ◌*◌, ◌%◌, ◌^◌, ◌<◌, ◌≤◌, min, Bool, true, false, ◌&&◌, ◌||◌, T, eqb, ltb, leb, ◌⊎◌, ℤ, pos, negsuc, neg_ℤ, sym, refl, ap, ◌∙◌, subst, inl, inr, le_trans, le_of_eq, lt_of_lt_of_le, lt_of_le_of_lt, le_of_lt, zero-lt-suc, mul_assoc, lt_of_mul-lt-mul_right, mul-le-mul_left, mul-lt-mul_of_pos_right, mul-pos, one-mul, div-add-mod', zero-mul, mul-one, div-le_self, mul_right_comm, not-le_of_lt, le_of_mul-le-mul_right, div-one, arith, lit≤, eqb→eq, ltb→lt, pow_pos, pow_mono, pow-add, ltb-false, ltb-true, eq-eqb}
use mathlib.Core.Bool.{beq, false≢true}
use native.Mathlib.Nat.{mod-one, eq_of_mul-eq-mul_right}
use lib.Ieee.{Float, nan, inf, fin, binary64, up, down, round, eq, le, lt, fits, of_int, to_signed}
use lib.Ieee.Fits.{and_l, and_r, and_i, eq→eqb, down_pos}
use lib.Ieee.Exact.{HasValue, round_exact}
use lib.Ieee.Back.{round_whole}
use Rattle.std.specs.Float.{float_is_finite}
use Rattle.binary64.specs.Exact.{signed}
use Rattle.binary64.specs.Read.{whole_of}
use Rattle.binary64.proofs.Tests.{over, part, low_end_law, high_end_law, bound, bound_pos, few_digits, no_sum_r, one_test, or_r, or_le, beyond_low, whole_part}

-- ---- far out there are no fractions
far : (k : ℕ) → 53 ≤ k → (s : Bool) (m : ℕ) (e : ℤ) → T (fits binary64 (fin s m e)) → bound k e ≤ m * up e → over m e ≡ 0
far k h s m (pos j) t b = mod-one (m * 2 ^ j)
far k h s m (negsuc j) t b = absurd (not-le_of_lt (lt_of_lt_of_le (few_digits binary64 s m (negsuc j) t) (pow_mono h)) (le_trans (le_trans (grows (2 ^ k) (2 ^ suc j) (pow_pos (suc j))) (le_of_eq (ap (λ (x : ℕ). x * 2 ^ suc j) (sym (one-mul (2 ^ k)))))) (subst (λ (x : ℕ). bound k (negsuc j) ≤ x) (mul-one m) b)))
  where
    grows : (a b : ℕ) → 0 < b → a ≤ a * b
    grows a b h = subst (λ (x : ℕ). x ≤ a * b) (mul-one a) (mul-le-mul_left a h)

-- ---- the cut, in range
pub part_le : (m : ℕ) (e : ℤ) → part m e * down e ≤ m * up e
part_le m e = sum_le (part m e * down e) (over m e) (m * up e) (div-add-mod' (m * up e) (down e))
  where
    sum_le : (a b c : ℕ) → a + b ≡ c → a ≤ c
    sum_le a b c h = omega arith

low_part : (k m : ℕ) (e : ℤ) → le (low_end_law k) (fin true m e) ≡ true → part m e ≤ 2 ^ k
unfolding le
low_part k m e p =
    let h : m * up e ≤ bound k e = rw mul-one at (or_le (m * up e * 1) (bound k e) (eqb (bound k e) (m * up e * 1)) (λ t. sym (eqb→eq (bound k e) (m * up e * 1) t)) p) in
    le_of_mul-le-mul_right (le_trans (le_trans (part_le m e) h) (le_of_eq (ap (λ (x : ℕ). x * down e) (one-mul (2 ^ k))))) (down_pos e)

high_part : (k m : ℕ) (e : ℤ) → lt (fin false m e) (high_end_law k) ≡ true → part m e < 2 ^ k
unfolding lt
high_part k m e p =
    let h : m * up e < bound k e = rw mul-one at (ltb-true (m * up e * 1) (bound k e) p) in
    lt_of_mul-lt-mul_right (down e) (lt_of_le_of_lt (part_le m e) (lt_of_lt_of_le h (le_of_eq (ap (λ (x : ℕ). x * down e) (one-mul (2 ^ k))))))

uncut : (a c : ℕ) → a < c → min a (c - 1) ≡ a
uncut a c h = omega arith

uncut_le : (a c : ℕ) → a ≤ c → min a c ≡ a
uncut_le a c h = omega arith

cut_is : (s : Bool) (m : ℕ) (e : ℤ) → le (low_end_law 63) (fin s m e) ≡ true → lt (fin s m e) (high_end_law 63) ≡ true → to_signed 63 (fin s m e) ≡ signed s (part m e)
unfolding to_signed
cut_is false m e p q = ap pos (uncut (part m e) (2 ^ 63) (high_part 63 m e q))
cut_is true m e p q = ap (λ (c : ℕ). neg_ℤ (pos c)) (uncut_le (part m e) (2 ^ 63) (low_part 63 m e p))

pub cut_small : (s : Bool) (m : ℕ) (e : ℤ) → part m e < 2 ^ 63 → to_signed 63 (fin s m e) ≡ signed s (part m e)
unfolding to_signed
cut_small false m e h = ap pos (uncut (part m e) (2 ^ 63) h)
cut_small true m e h = ap (λ (c : ℕ). neg_ℤ (pos c)) (uncut_le (part m e) (2 ^ 63) (le_of_lt h))

-- ---- the whole part is an f64
reaches : (s : Bool) (m : ℕ) (e : ℤ) → T (fits binary64 (fin s m e)) → m * up e < 2 ^ 1024 * down e
unfolding fits
reaches s zero e t = subst (λ (x : ℕ). x < 2 ^ 1024 * down e) (sym (zero-mul (up e))) (mul-pos (pow_pos 1024) (down_pos e))
reaches s (suc m) e t =
    let a = eqb (suc m % 2) 1 in
    let b = ltb (suc m) (2 ^ 53) in
    let c = leb (down e) (2 ^ 1074) in
    ltb→lt (suc m * up e) (2 ^ 1024 * down e) (and_r (a && b && c) (ltb (suc m * up e) (2 ^ 1024 * down e)) t)

part_value : (b s : Bool) (m : ℕ) (e : ℤ) → T (fits binary64 (fin s m e)) → HasValue (round binary64 b (part m e) 1) b (part m e) 1
part_value b s m (pos j) t =
    let up-there : m * 2 ^ (j + 1074) ≡ m * 2 ^ j * 2 ^ 1074 = ap (λ (x : ℕ). m * x) (pow-add 2 j 1074) ∙ sym (mul_assoc m (2 ^ j) (2 ^ 1074)) in
    subst (λ (q : ℕ). HasValue (round binary64 b q 1) b q 1) (sym (div-one (m * 2 ^ j)))
    (round_exact binary64 b (m * 2 ^ j) 1 m (j + 1074) (zero-lt-suc 0) (few_digits binary64 s m (pos j) t)
    (subst (λ (x : ℕ). x < 2 ^ 2098) (sym up-there) (mul-lt-mul_of_pos_right (reaches s m (pos j) t) (pow_pos 1074)))
    (sym up-there ∙ sym (mul-one (m * 2 ^ (j + 1074)))))
part_value b s m (negsuc j) t =
    round_whole binary64 b (part m (negsuc j)) (le_trans (div-le_self (m * 1) (2 ^ suc j)) (le_trans (le_of_eq (mul-one m)) (le_of_lt (few_digits binary64 s m (negsuc j) t))))

-- the whole part as an f64 has x's sign, unless it is 0
with_sign : (s : Bool) (q : ℕ) → HasValue (round binary64 false q 1) false q 1 → HasValue (round binary64 true q 1) true q 1
    → (b : Bool) × HasValue (of_int binary64 (signed s q)) b q 1 × ((b ≡ s) ⊎ (q ≡ 0))
unfolding of_int
with_sign false q f t = (false, f, inl refl)
with_sign true zero f t = (false, f, inr refl)
with_sign true (suc q) f t = (true, t, inl refl)

-- ---- back again
beq_refl : (s : Bool) → T (beq s s)
beq_refl true = tt
beq_refl false = tt

pub or_l : (a b : Bool) → T a → T (a || b)
or_l true b t = tt
or_l false b t = absurd t

none_over : (a r c : ℕ) → a + r ≡ c → a ≡ c → r ≡ 0
none_over a r c h k = omega arith

back_as_it_was : (y : Float) (b s : Bool) (m : ℕ) (e : ℤ) → HasValue y b (part m e) 1 → ((b ≡ s) ⊎ (part m e ≡ 0)) → eq y (fin s m e) ≡ eqb (over m e) 0
unfolding eq
back_as_it_was nan b s m e v w = absurd v
back_as_it_was (inf t) b s m e v w = absurd v
back_as_it_was (fin t n g) b s m e v w =
    let q = part m e in
    let x = n * up g * down e in
    let y = m * up e * down g in
    let x-is : x ≡ q * down e * down g = ap (λ (k : ℕ). k * down e) (sym (mul-one (n * up g)) ∙ v.1) ∙ mul_right_comm q (down g) (down e) in
    one_test (eqb x y && (beq t s || eqb x 0)) (eqb (over m e) 0)
    (λ k.
    eq→eqb (none_over (q * down e) (over m e) (m * up e) (div-add-mod' (m * up e) (down e))
    (eq_of_mul-eq-mul_right (down g) (down_pos g) (q * down e) (m * up e) (sym x-is ∙ eqb→eq x y (and_l (eqb x y) (beq t s || eqb x 0) k)))))
    (λ k.
    and_i (eqb x y) (beq t s || eqb x 0) (eq→eqb (x-is ∙ ap (λ (j : ℕ). j * down g) (sym (whole_part m e (eqb→eq (over m e) 0 k)))))
    (elim w [
      | inl h ↦ or_l (beq t s) (eqb x 0) (subst (λ (c : Bool). T (beq t c)) (v.0 ∙ h) (beq_refl t))
      | inr h ↦ or_r (beq t s) (eqb x 0) (eq→eqb (x-is ∙ ap (λ (j : ℕ). j * down e * down g) h ∙ ap (λ (j : ℕ). j * down g) (zero-mul (down e)) ∙ zero-mul (down g)))
    ]))

pub trip : (s : Bool) (m : ℕ) (e : ℤ) → T (fits binary64 (fin s m e)) → eq (of_int binary64 (signed s (part m e))) (fin s m e) ≡ eqb (over m e) 0
trip s m e t =
    let r = with_sign s (part m e) (part_value false s m e t) (part_value true s m e t) in
    back_as_it_was (of_int binary64 (signed s (part m e))) r.0 s m e r.1 r.2

-- ---- the two ways through `is_whole`
pub near_is : (x : Float) → T (fits binary64 x) → le (low_end_law 63) x ≡ true → lt x (high_end_law 63) ≡ true → eq (of_int binary64 (to_signed 63 x)) x ≡ whole_of x
unfolding le
near_is nan t p q = absurd (false≢true p)
near_is (inf true) t p q = absurd (false≢true p)
near_is (inf false) t p q = absurd (false≢true q)
near_is (fin s m e) t p q = ap (λ (z : ℤ). eq (of_int binary64 z) (fin s m e)) (cut_is s m e p q) ∙ trip s m e t

at_least : (k : ℕ) (s : Bool) (m : ℕ) (e : ℤ) → lt (fin s m e) (high_end_law k) ≡ false → bound k e ≤ m * up e
unfolding lt
at_least k false m e p = rw mul-one at (ltb-false (m * up e * 1) (bound k e) p)
at_least k true m e p = absurd (no_sum_r (m * up e * 1) (bound k e) (bound_pos k e) (ltb-false 0 (m * up e * 1 + bound k e) p))

beyond : (s : Bool) (m : ℕ) (e : ℤ) → (le (low_end_law 63) (fin s m e) ≡ false) ⊎ (lt (fin s m e) (high_end_law 63) ≡ false) → bound 63 e ≤ m * up e
beyond s m e (inl p) = le_of_lt (beyond_low 63 s m e p)
beyond s m e (inr p) = at_least 63 s m e p

pub far_is : (x : Float) → T (fits binary64 x) → (le (low_end_law 63) x ≡ false) ⊎ (lt x (high_end_law 63) ≡ false) → float_is_finite x ≡ whole_of x
unfolding float_is_finite
far_is nan t w = refl
far_is (inf s) t w = refl
far_is (fin s m e) t w = sym (eq-eqb (over m e) 0 (far 63 (lit≤ tt) s m e t (beyond s m e w)))
