-- A whole number as an f64, divided by a power of two, is exact: nothing is rounded. The kit's `round_exact` says where rounding changes
-- nothing, and `round_whole` that a whole number up to 2 ^ 53 is an f64. Assumes nothing.
use Rattle.std.proofs.Common.{◌≡◌, ℕ, suc, ◌+◌, ◌-◌, ◌*◌, ◌^◌, ◌<◌, ◌≤◌, Bool, true, false, ℤ, pos, negsuc, sym, refl, ap, ◌∙◌, subst, lt_of_lt_of_le, le_of_lt, mul_assoc, mul_comm, mul-pos, one-mul, mul_right_comm, mul_left_comm, arith, pow_pos, pow_mono, pow-add, shl_lt, w32, SFits, to_z, of_z}
use native.Mathlib.Nat.{eq_of_mul-eq-mul_right}
use lib.Signed.{mag}
use lib.Ieee.{Float, nan, inf, fin, Format, binary64, prec, emax, low, up, down, unlike, round, div, of_int}
use lib.Ieee.Digits.{back}
use lib.Ieee.Fits.{down_pos, reach}
use lib.Ieee.Exact.{HasValue, round_exact}
use lib.Ieee.Back.{round_whole}
use mir.ValLaws.{to_z-of_z}
use Rattle.binary64.specs.Exact.{Exactly}

-- a / c and b / d are one number: what has the first for its value has the second
pub same_number : (x : Float) (s : Bool) (a c b d : ℕ) → 0 < c → a * d ≡ b * c → HasValue x s a c → HasValue x s b d
same_number nan s a c b d p h v = v
same_number (inf t) s a c b d p h v = v
same_number (fin t m e) s a c b d p h v = (
  v.0,
  eq_of_mul-eq-mul_right c p (m * up e * d) (b * down e)
      (mul_right_comm (m * up e) d c
      ∙ ap (λ (x : ℕ). x * d) v.1
      ∙ mul_right_comm a (down e) d
      ∙ ap (λ (x : ℕ). x * down e) h
      ∙ mul_right_comm b c (down e)),
)

-- the sign of a quotient by a number above zero
keeps_sign : (t : Bool) → unlike t false ≡ t
keeps_sign true = refl
keeps_sign false = refl

room : (p l k m : ℕ) → p ≤ m → p + (l - k) ≤ l + m
room p l k m h = omega arith

-- a whole number of at most `prec` digits by 2 ^ k: the quotient has the same digits, k places lower
pub divided : (f : Format) (k : ℕ) → k ≤ low f → (x : Float) (s : Bool) (n : ℕ) → n < 2 ^ prec f → HasValue x s n 1 → HasValue (div f x (fin false 1 (pos k))) s n (2 ^ k)
unfolding div
divided f k h nan s n small v = v
divided f k h (inf t) s n small v = v
divided f k h (fin t m e) s n small v =
    let l = low f in
    let j = l - k in
    let num = m * up e * 1 in
    let den = 1 * 2 ^ k * down e in
    let den_pos : 0 < den = mul-pos (mul-pos (pow_pos 0) (pow_pos k)) (down_pos e) in
    let whole : 2 ^ l ≡ 2 ^ j * 2 ^ k = ap (λ (x : ℕ). 2 ^ x) (sym (back l k h)) ∙ pow-add 2 j k in
    let fine : n * 2 ^ j < 2 ^ (l + suc (emax f)) = lt_of_lt_of_le (shl_lt (prec f) j small) (pow_mono (room (prec f) l k (suc (emax f)) (reach f))) in
    let same : num * 2 ^ l ≡ n * 2 ^ j * den =
    ap (λ (x : ℕ). x * 2 ^ l) v.1 ∙ ap (λ (x : ℕ). n * down e * x) whole ∙ simp (mul_assoc, mul_comm, mul_left_comm, one-mul) in
    let cross : num * 2 ^ k ≡ n * den = ap (λ (x : ℕ). x * 2 ^ k) v.1 ∙ simp (mul_assoc, mul_comm, mul_left_comm, one-mul) in
    same_number (round f (unlike t false) num den) s num den n (2 ^ k) den_pos cross
    (subst (λ (b : Bool). HasValue (round f b num den) s num den) (sym (keeps_sign t ∙ v.0)) (round_exact f s num den n j den_pos small fine same))

-- the kit's `HasValue` and this crate's `Exactly`
as_pos : (x : Float) (n d : ℕ) → HasValue x false n d → Exactly x (pos n) d
as_pos nan n d v = v
as_pos (inf s) n d v = v
as_pos (fin s m e) n d v = v

as_neg : (x : Float) (n d : ℕ) → HasValue x true (suc n) d → Exactly x (negsuc n) d
as_neg nan n d v = v
as_neg (inf s) n d v = v
as_neg (fin s m e) n d v = v

below_53 : (n : ℕ) → n < 2 ^ 31 → n < 2 ^ 53
below_53 n h = omega arith

suc_below_53 : (n : ℕ) → n < 2 ^ 31 → suc n < 2 ^ 53
suc_below_53 n h = omega arith

-- an i32 as an f64, divided by 2 ^ k, is exactly z / 2 ^ k
pub quotient : (k : ℕ) → k ≤ 1074 → (z : ℤ) → mag z < 2 ^ 31 → Exactly (div binary64 (of_int binary64 z) (fin false 1 (pos k))) z (2 ^ k)
unfolding of_int
quotient k h (pos n) r =
    let small : n < 2 ^ 53 = below_53 n r in
    as_pos (div binary64 (round binary64 false n 1) (fin false 1 (pos k))) n (2 ^ k)
    (divided binary64 k h (round binary64 false n 1) false n small (round_whole binary64 false n (le_of_lt small)))
quotient k h (negsuc n) r =
    let small : suc n < 2 ^ 53 = suc_below_53 n r in
    as_neg (div binary64 (round binary64 true (suc n) 1) (fin false 1 (pos k))) n (2 ^ k)
    (divided binary64 k h (round binary64 true (suc n) 1) true (suc n) small (round_whole binary64 true (suc n) (le_of_lt small)))

-- The machine keeps an i32 as its bits, and reads the number back from them: `to_z w32 (of_z w32 z)` is z.

-- the code's `y as f64 / 2^k`, where y is the i32 z
pub cast_quotient : (k : ℕ) → k ≤ 1074 → (y z : ℤ) → y ≡ z → SFits w32 z → Exactly (div binary64 (of_int binary64 (to_z w32 (of_z w32 y))) (fin false 1 (pos k))) z (2 ^ k)
cast_quotient k h y z e f =
    subst (λ (v : ℤ). Exactly (div binary64 (of_int binary64 v) (fin false 1 (pos k))) z (2 ^ k)) (sym (ap (λ (v : ℤ). to_z w32 (of_z w32 v)) e ∙ to_z-of_z w32 z f))
    (quotient k h z f.sfits)
