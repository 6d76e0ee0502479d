-- Two f64 are equal as the code compares them exactly where they are one number; a zero of either sign is 0.
use Rattle.std.proofs.Common.{◌≡◌, ℕ, zero, suc, ◌*◌, ◌<◌, Bool, true, false, ◌||◌, T, eqb, ◌⊎◌, ℤ, pos, negsuc, neg_ℤ, nat_abs, sym, refl, ap, ◌∙◌, inl, inr, zero-mul, mul_right_comm, arith, eqb→eq}
use mathlib.Core.Bool.{beq}
use native.Mathlib.Nat.{eq_of_mul-eq-mul_right}
use lib.Ieee.{Float, nan, inf, fin, up, down, eq}
use lib.Ieee.Fits.{and_l, and_r, and_i, eq→eqb, down_pos}
use Rattle.binary64.specs.Exact.{signed, Number}
use Rattle.binary64.proofs.Near.{abs_signed}

-- m × up e is x, and n × up g is k × down g: equal crosswise, x is k × down e
cancelled : (x k y c d : ℕ) → 0 < d → y ≡ k * d → x * d ≡ y * c → x ≡ k * c
cancelled x k y c d p v h = eq_of_mul-eq-mul_right d p x (k * c) (h ∙ ap (λ j. j * c) v ∙ mul_right_comm k d c)

-- a product that is 0 by a factor above 0
none : (x d : ℕ) → 0 < d → x * d ≡ 0 → x ≡ 0
none x d p h = eq_of_mul-eq-mul_right d p x 0 (h ∙ sym (zero-mul d))

or_split : (a b : Bool) → T (a || b) → T a ⊎ T b
or_split true b t = inl t
or_split false b t = inr t

sign : (s u : Bool) (k : ℕ) (b : Bool) → T (beq s u) ⊎ T b → (T b → k ≡ 0) → signed u k ≡ signed s k
sign true true k b w h = refl
sign false false k b w h = refl
sign true false k b (inl t) h = absurd t
sign false true k b (inl t) h = absurd t
sign true false k b (inr t) h = ap pos (h t) ∙ sym (ap (λ j. neg_ℤ (pos j)) (h t))
sign false true k b (inr t) h = ap (λ j. neg_ℤ (pos j)) (h t) ∙ sym (ap pos (h t))

apart : (k l : ℕ) → pos k ≡ negsuc l → ⊥
apart k l e = let z : ◌≡◌ {A = ℕ} 0 1 = cc in absurd (omega arith)

-- one number has one sign, but for 0
signs : (s u : Bool) (k l : ℕ) (b : Bool) → signed s k ≡ signed u l → (k ≡ 0 → T b) → T (beq s u || b)
signs true true k l b e h = tt
signs false false k l b e h = tt
signs true false zero l b e h = h refl
signs true false (suc k) l b e h = absurd (apart l k (sym e))
signs false true k zero b e h = h (cc)
signs false true k (suc l) b e h = absurd (apart k l e)

-- equal to a whole number is that number
pub equal_number : (x y : Float) (z : ℤ) → T (eq x y) → Number y z → Number x z
unfolding eq
equal_number nan y z t v = absurd t
equal_number (inf s) nan z t v = absurd t
equal_number (inf s) (inf u) z t v = absurd v
equal_number (inf s) (fin u n g) z t v = absurd t
equal_number (fin s m e) nan z t v = absurd t
equal_number (fin s m e) (inf u) z t v = absurd t
equal_number (fin s m e) (fin u n g) z t v =
    let a = m * up e * down g in
    let b = n * up g * down e in
    let size = cancelled (m * up e) v.0 (n * up g) (down e) (down g) (down_pos g) v.2 (eqb→eq a b (and_l (eqb a b) (beq s u || eqb a 0) t)) in (
      v.0,
      v.1 ∙ sign s u v.0 (eqb a 0) (or_split (beq s u) (eqb a 0) (and_r (eqb a b) (beq s u || eqb a 0) t))
          (λ k. none v.0 (down e) (down_pos e) (sym size ∙ none (m * up e) (down g) (down_pos g) (eqb→eq a 0 k))),
      size,
    )

-- two f64 that are one number are equal
pub number_equal : (x y : Float) (z : ℤ) → Number x z → Number y z → T (eq x y)
unfolding eq
number_equal nan y z v w = absurd v
number_equal (inf s) y z v w = absurd v
number_equal (fin s m e) nan z v w = absurd w
number_equal (fin s m e) (inf u) z v w = absurd w
number_equal (fin s m e) (fin u n g) z v w =
    let a = m * up e * down g in
    let b = n * up g * down e in
    let same : signed s v.0 ≡ signed u w.0 = sym v.1 ∙ w.1 in
    let sizes : v.0 ≡ w.0 = sym (abs_signed s v.0) ∙ ap nat_abs same ∙ abs_signed u w.0 in
    let level : a ≡ b =
    ap (λ k. k * down g) v.2 ∙ ap (λ k. k * down e * down g) sizes ∙ mul_right_comm w.0 (down e) (down g) ∙ ap (λ k. k * down e) (sym w.2) in
    and_i (eqb a b) (beq s u || eqb a 0) (eq→eqb level)
    (signs s u v.0 w.0 (eqb a 0) same (λ k. eq→eqb (ap (λ j. j * down g) v.2 ∙ ap (λ j. j * down e * down g) k ∙ ap (λ j. j * down g) (zero-mul (down e)) ∙ zero-mul (down g))))
