-- Whole numbers of at most 2^20 in size: what the two comparisons of `is_near` and its cut find, and the cast of `near_number`.
use Rattle.std.proofs.Common.{◌≡◌, ℕ, zero, suc, ◌+◌, ◌-◌, ◌*◌, ◌%◌, ◌^◌, ◌<◌, ◌≤◌, Bool, true, false, cond, not, ◌&&◌, T, eqb, ltb, leb, ℤ, pos, nat_abs, sym, refl, ap, ◌∙◌, subst, ap₂, true≢false, zero-le, le_trans, add-zero, zero-lt-suc, mul-lt-mul_of_pos_right, mul-pos, zero-mul, mul-one, le_of_mul-le-mul_right, arith, lit<, le→leb, eqb→eq, lt→ltb, w32, SFits, le-ltb, lt-ltb, eqb-true, le-leb, leb-true}
use mathlib.Core.Bool.{false≢true}
use mathlib.Core.Option.{Option, none, some}
use native.Mathlib.Nat.{sub-zero, mul-mod_left, eq_of_mul-eq-mul_right}
use lib.Dec.{not_T}
use lib.Signed.{mag}
use lib.Ieee.{Float, nan, inf, fin, binary64, up, down, round, sum, add, eq, le, lt, fits, whole, in_signed, of_int, to_signed}
use lib.Ieee.Exact.{HasValue}
use lib.Ieee.Back.{round_whole}
use lib.Ieee.Scale.{round_same}
use lib.Ieee.Fits.{and_l, and_r, and_i, eq→eqb, down_pos}
use borrow.Author.Tests.{lt-leb}
use Rattle.binary64.specs.Exact.{signed}
use Rattle.binary64.specs.Inside.{near_in, near_of, number_in, near_number}
use Rattle.binary64.proofs.Tests.{over, part, low_end_law, high_end_law, bound, bound_pos, within, whole_part, part_beyond, beyond_low, beyond_high}
use Rattle.binary64.proofs.Trip.{or_l, part_le, cut_small, trip}

-- what is read of a number, with the test of its rest and the whole part as variables
abbrev answer : Bool → Bool → ℕ → Option ℤ
answer s b q = elim b [ true ↦ some (signed s q) | false ↦ none ]

pub abs_signed : (s : Bool) (n : ℕ) → nat_abs (signed s n) ≡ n
abs_signed false n = refl
abs_signed true zero = refl
abs_signed true (suc n) = refl

-- ---- out of range
far_answer : (s b : Bool) (q : ℕ) → (b ≡ true → 1048576 < q) → false ≡ near_in (answer s b q)
far_answer s true q h = sym (ap (λ (n : ℕ). leb n 1048576) (abs_signed s q) ∙ lt-leb q 1048576 (h refl))
far_answer s false q h = refl

far_is : (s : Bool) (m : ℕ) (e : ℤ) → bound 20 e < m * up e → false ≡ near_of (fin s m e)
far_is s m e h = far_answer s (eqb (over m e) 0) (part m e) (λ z. part_beyond 20 m e (eqb-true (over m e) 0 z) h)

pub too_low : (x : Float) → le (low_end_law 20) x ≡ false → false ≡ near_of x
too_low nan p = refl
too_low (inf s) p = refl
too_low (fin s m e) p = far_is s m e (beyond_low 20 s m e p)

pub too_high : (x : Float) → le x (high_end_law 20) ≡ false → false ≡ near_of x
too_high nan p = refl
too_high (inf s) p = refl
too_high (fin s m e) p = far_is s m e (beyond_high 20 s m e p)

-- ---- in range
small_part : (s : Bool) (m : ℕ) (e : ℤ) → le (low_end_law 20) (fin s m e) ≡ true → le (fin s m e) (high_end_law 20) ≡ true → part m e ≤ 1048576
small_part s m e p q = le_of_mul-le-mul_right (le_trans (part_le m e) (within 20 s m e p q)) (down_pos e)

under_63 : (q : ℕ) → q ≤ 1048576 → q < 2 ^ 63
under_63 q h = omega arith

small_mag : (s : Bool) (q : ℕ) → q ≤ 1048576 → mag (signed s q) < 2 ^ 31
small_mag false q h = omega arith
small_mag true zero h = lit< tt
small_mag true (suc q) h = omega arith

near_answer : (s b : Bool) (q : ℕ) → q ≤ 1048576 → b ≡ near_in (answer s b q)
near_answer s true q h = sym (ap (λ (n : ℕ). leb n 1048576) (abs_signed s q) ∙ le-leb q 1048576 h)
near_answer s false q h = refl

-- the cut fits an i32
pub cut_fits : (x : Float) → le (low_end_law 20) x ≡ true → le x (high_end_law 20) ≡ true → SFits w32 (to_signed 63 x)
unfolding le
cut_fits nan p q = absurd (false≢true p)
cut_fits (inf true) p q = absurd (false≢true p)
cut_fits (inf false) p q = absurd (false≢true q)
cut_fits (fin s m e) p q =
    let h = small_part s m e p q in
    record { sfits = subst (λ (z : ℤ). mag z < 2 ^ 31) (sym (cut_small s m e (under_63 (part m e) h))) (small_mag s (part m e) h) }

-- the cut is defined
wider : (e : ℤ) → bound 20 e < bound 63 e
wider e = mul-lt-mul_of_pos_right (wide) (down_pos e)
  where
    wide : 1 * 2 ^ 20 < 1 * 2 ^ 63
    wide = lit< tt

sum_pos : (a b : ℕ) → 0 < b → 0 < a + b
sum_pos a b h = omega arith

pub near_low : (x : Float) → le (low_end_law 20) x ≡ true → le x (high_end_law 20) ≡ true → T (le (low_end_law 63) x)
unfolding le
near_low nan p q = absurd (false≢true p)
near_low (inf true) p q = absurd (false≢true p)
near_low (inf false) p q = absurd (false≢true q)
near_low (fin false m e) p q = or_l (ltb 0 (bound 63 e + m * up e * 1)) _ (lt→ltb 0 (bound 63 e + m * up e * 1) (omega (arith, bound_pos 63 e)))
near_low (fin true m e) p q =
    or_l (ltb (m * up e * 1) (bound 63 e)) _ (lt→ltb (m * up e * 1) (bound 63 e) (omega (arith, within 20 true m e p q, wider e)))

pub near_high : (x : Float) → le (low_end_law 20) x ≡ true → le x (high_end_law 20) ≡ true → T (lt x (high_end_law 63))
unfolding le lt
near_high nan p q = absurd (false≢true p)
near_high (inf true) p q = absurd (false≢true p)
near_high (inf false) p q = absurd (false≢true q)
near_high (fin false m e) p q = lt→ltb (m * up e * 1) (bound 63 e) (omega (arith, within 20 false m e p q, wider e))
near_high (fin true m e) p q = lt→ltb 0 (m * up e * 1 + bound 63 e) (sum_pos (m * up e * 1) (bound 63 e) (bound_pos 63 e))

-- made an f64 again it is as it was exactly where x is near
pub near_is : (x : Float) → T (fits binary64 x) → le (low_end_law 20) x ≡ true → le x (high_end_law 20) ≡ true → eq (of_int binary64 (to_signed 63 x)) x ≡ near_of x
unfolding le
near_is nan t p q = absurd (false≢true p)
near_is (inf true) t p q = absurd (false≢true p)
near_is (inf false) t p q = absurd (false≢true q)
near_is (fin s m e) t p q =
    let h = small_part s m e p q in
    ap (λ (z : ℤ). eq (of_int binary64 z) (fin s m e)) (cut_small s m e (under_63 (part m e) h))
    ∙ trip s m e t
    ∙ near_answer s (eqb (over m e) 0) (part m e) h

-- ---- the cast of a number that is near
in_53 : (q : ℕ) → q ≤ 1048576 → q ≤ 2 ^ 53
in_53 q h = omega arith

in_63 : (q : ℕ) → q ≤ 1048576 → q ≤ 2 ^ 63
in_63 q h = omega arith

-- a number that is near has no rest and a small whole part
near_parts : (s b : Bool) (q : ℕ) → near_in (answer s b q) ≡ true → (b ≡ true) × (q ≤ 1048576)
near_parts s true q h = (refl, leb-true q 1048576 (ap (λ (n : ℕ). leb n 1048576) (sym (abs_signed s q)) ∙ h))
near_parts s false q h = absurd (false≢true h)

-- the code's `x + 0.0`
abbrev pub plus_zero : Float → Float
plus_zero x = add binary64 x (fin false 0 (pos 0))

-- its sign: that of x, but for a zero
abbrev kept_sign : Bool → ℕ → Bool
kept_sign s q = s && ltb 0 q

-- a whole number is itself with 0.0 added, and −0.0 is 0.0
same_test : (a c q : ℕ) → 0 < c → a ≡ q * c → ltb 0 a ≡ ltb 0 q
same_test a c zero p e = ap (ltb 0) (e ∙ zero-mul c)
same_test a c (suc q) p e = lt-ltb 0 a (subst (λ (n : ℕ). 0 < n) (sym e) (mul-pos (zero-lt-suc q) p)) ∙ sym (lt-ltb 0 (suc q) (zero-lt-suc q))

-- 0 added to ±a / c, which is ±q
sum_zero : (s : Bool) (a c q : ℕ) → 0 < c → a ≡ q * c → q ≤ 2 ^ 53 → HasValue (sum binary64 s a false 0 c) (kept_sign s q) q 1
unfolding sum
sum_zero false a c q p e h =
    subst (λ (x : Float). HasValue x false q 1) (sym (round_same binary64 false (a + 0) c q 1 p (lit< tt) (mul-one (a + 0) ∙ add-zero a ∙ e)))
    (round_whole binary64 false q h)
sum_zero true a c q p e h =
    let other = round binary64 false (0 - a) c in
    subst (λ (t : Bool). HasValue (cond t other (round binary64 (ltb 0 a) (a - 0) c)) (ltb 0 q) q 1) (sym (le-ltb a 0 zero-le))
    (subst (λ (t : Bool). HasValue (round binary64 t (a - 0) c) (ltb 0 q) q 1) (sym (same_test a c q p e))
    (subst (λ (x : Float). HasValue x (ltb 0 q) q 1) (sym (round_same binary64 (ltb 0 q) (a - 0) c q 1 p (lit< tt) (mul-one (a - 0) ∙ sub-zero a ∙ e)))
    (round_whole binary64 (ltb 0 q) q h)))

zero_added : (s : Bool) (m : ℕ) (e : ℤ) → over m e ≡ 0 → part m e ≤ 1048576 → HasValue (plus_zero (fin s m e)) (kept_sign s (part m e)) (part m e) 1
unfolding add
zero_added s m e z h =
    subst (λ (b : ℕ). HasValue (sum binary64 s (m * up e * 1) false b (down e * 1)) (kept_sign s (part m e)) (part m e) 1) (sym nothing)
    (sum_zero s (m * up e * 1) (down e * 1) (part m e) (mul-pos (down_pos e) (lit< tt)) crosswise (in_53 (part m e) h))
  where
    nothing : 0 * 2 ^ 0 * down e ≡ 0
    nothing = zero-mul (down e)

    crosswise : m * up e * 1 ≡ part m e * (down e * 1)
    crosswise = mul-one (m * up e) ∙ whole_part m e z ∙ ap (λ (k : ℕ). part m e * k) (sym (mul-one (down e)))

-- n × 2^g is the whole number q
no_rest : (n : ℕ) (g : ℤ) (q : ℕ) → n * up g * 1 ≡ q * down g → over n g ≡ 0
no_rest n g q v = ap (λ (k : ℕ). k % down g) (sym (mul-one (n * up g)) ∙ v) ∙ mul-mod_left q (down g)

whole_of : (n : ℕ) (g : ℤ) (q : ℕ) → n * up g * 1 ≡ q * down g → part n g ≡ q
whole_of n g q v = eq_of_mul-eq-mul_right (down g) (down_pos g) (part n g) q (sym (whole_part n g (no_rest n g q v)) ∙ sym (mul-one (n * up g)) ∙ v)

digits_none : (n : ℕ) (g : ℤ) (q : ℕ) → n ≡ 0 → n * up g * 1 ≡ q * down g → q ≡ 0
digits_none n g q e v =
    eq_of_mul-eq-mul_right (down g) (down_pos g) q 0 (sym v ∙ mul-one (n * up g) ∙ ap (λ (k : ℕ). k * up g) e ∙ zero-mul (up g) ∙ sym (zero-mul (down g)))

T_is_true : (t : Bool) → T t → t ≡ true
T_is_true true h = refl
T_is_true false h = absurd h

either_way : (t : Bool) (q : ℕ) → q ≤ 1048576 → T (cond t (leb q (2 ^ 63)) (ltb q (2 ^ 63)))
either_way true q h = le→leb q (2 ^ 63) (in_63 q h)
either_way false q h = lt→ltb q (2 ^ 63) (under_63 q h)

-- what has the value q, of no negative zero, can be cast
castable : (y : Float) (b : Bool) (q : ℕ) → (q ≡ 0 → b ≡ false) → q ≤ 1048576 → HasValue y b q 1 → T (in_signed binary64 63 y)
unfolding whole in_signed
castable nan b q zero-sign h v = absurd v
castable (inf t) b q zero-sign h v = absurd v
castable (fin t n g) b q zero-sign h v =
    let z = no_rest n g q v.1 in
    let w = whole_of n g q v.1 in
    let few : T (leb (part n g) (2 ^ 53)) = le→leb (part n g) (2 ^ 53) (subst (λ (k : ℕ). k ≤ 2 ^ 53) (sym w) (in_53 q h)) in
    and_i (eqb (over n g) 0 && leb (part n g) (2 ^ 53) && not (t && eqb n 0)) (cond t (leb (part n g) (2 ^ 63)) (ltb (part n g) (2 ^ 63)))
    (and_i (eqb (over n g) 0 && leb (part n g) (2 ^ 53)) (not (t && eqb n 0)) (and_i (eqb (over n g) 0) (leb (part n g) (2 ^ 53)) (eq→eqb z) few)
    (not_T (t && eqb n 0) (λ k. true≢false (sym (T_is_true t (and_l t (eqb n 0) k)) ∙ v.0 ∙ zero-sign (digits_none n g q (eqb→eq n 0 (and_r t (eqb n 0) k)) v.1)))))
    (either_way t (part n g) (subst (λ (k : ℕ). k ≤ 1048576) (sym w) h))

cast_value : (y : Float) (b : Bool) (q : ℕ) → q ≤ 1048576 → HasValue y b q 1 → to_signed 63 y ≡ signed b q
cast_value nan b q h v = absurd v
cast_value (inf t) b q h v = absurd v
cast_value (fin t n g) b q h v =
    let w = whole_of n g q v.1 in
    cut_small t n g (subst (λ (k : ℕ). k < 2 ^ 63) (sym w) (under_63 q h)) ∙ ap₂ signed v.0 w

same_number : (s : Bool) (q : ℕ) → signed (kept_sign s q) q ≡ signed s q
same_number false q = refl
same_number true zero = refl
same_number true (suc q) = ap (λ (t : Bool). signed t (suc q)) (lt-ltb 0 (suc q) (zero-lt-suc q))

and_false : (s : Bool) → (s && false) ≡ false
and_false true = refl
and_false false = refl

positive_zero : (s : Bool) (q : ℕ) → q ≡ 0 → kept_sign s q ≡ false
positive_zero s q e = ap (λ (k : ℕ). s && ltb 0 k) e ∙ and_false s

pub casts : (x : Float) → near_of x ≡ true → T (in_signed binary64 63 (plus_zero x))
casts nan a = absurd (false≢true a)
casts (inf s) a = absurd (false≢true a)
casts (fin s m e) a =
    let h = near_parts s (eqb (over m e) 0) (part m e) a in
    castable (plus_zero (fin s m e)) (kept_sign s (part m e)) (part m e) (positive_zero s (part m e)) h.1
    (zero_added s m e (eqb-true (over m e) 0 h.0) h.1)

pub cast_is : (x : Float) → near_of x ≡ true → to_signed 63 (plus_zero x) ≡ near_number x
cast_is nan a = absurd (false≢true a)
cast_is (inf s) a = absurd (false≢true a)
cast_is (fin s m e) a =
    let h = near_parts s (eqb (over m e) 0) (part m e) a in
    cast_value (plus_zero (fin s m e)) (kept_sign s (part m e)) (part m e) h.1 (zero_added s m e (eqb-true (over m e) 0 h.0) h.1)
    ∙ same_number s (part m e) ∙ sym (ap (λ (b : Bool). number_in (answer s b (part m e))) h.0)
