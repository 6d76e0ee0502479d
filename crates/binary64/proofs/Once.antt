-- `Exactly` leaves no freedom: of the f64 there is at most one that is exactly z / d, bit for bit. Assumes nothing.
use Rattle.std.proofs.Common.{◌≡◌, ℕ, zero, suc, ◌+◌, ◌*◌, ◌%◌, ◌^◌, ◌<◌, Bool, ◌&&◌, T, eqb, ltb, leb, ℤ, pos, negsuc, sym, refl, ap, ◌∙◌, lt_irrefl, zero-lt-suc, mul_assoc, mul-pos, one-mul, pow-suc, zero-mul, mul-one, mul_right_comm, mul_left_comm, arith, eqb→eq, pow_pos, pow-add}
use native.Mathlib.Nat.{eq_of_mul-eq-mul_right, pow-succ'}
use lib.Ieee.{Float, nan, inf, fin, binary64, up, down, fits}
use lib.Ieee.Fits.{and_l, up_pos, down_pos}
use Rattle.binary64.specs.Exact.{Exactly}

-- of a value that fits: the digits are odd, or they are 0 with the exponent 0
odd_digits : (s : Bool) (m : ℕ) (e : ℤ) → T (fits binary64 (fin s (suc m) e)) → suc m % 2 ≡ 1
unfolding fits
odd_digits s m e t =
    let a = eqb (suc m % 2) 1 in
    let b = ltb (suc m) (2 ^ 53) in
    let c = leb (down e) (2 ^ 1074) in
    eqb→eq (suc m % 2) 1 (and_l a b (and_l (a && b) c (and_l (a && b && c) (ltb (suc m * up e) (2 ^ 1024 * down e)) t)))

double : (p : ℕ) → 0 < p → 2 * p ≡ 1 → ⊥
double p h e = omega arith

flat : (e : ℤ) → up e * down e ≡ 1 → e ≡ pos 0
flat (pos zero) h = refl
flat (pos (suc k)) h = absurd (double (2 ^ k) (pow_pos k) (sym (pow-succ' 2 k) ∙ sym (mul-one (2 ^ suc k)) ∙ h))
flat (negsuc k) h = absurd (double (2 ^ k) (pow_pos k) (sym (pow-succ' 2 k) ∙ sym (one-mul (2 ^ suc k)) ∙ h))

zero_exponent : (s : Bool) (e : ℤ) → T (fits binary64 (fin s zero e)) → e ≡ pos 0
unfolding fits
zero_exponent s e t = flat e (eqb→eq (up e * down e) 1 t)

-- odd numbers times powers of two
even_odd : (m t : ℕ) → m % 2 ≡ 1 → m ≡ 2 * t → ⊥
even_odd m t o h = omega arith

odd_pow : (m n a b : ℕ) → m % 2 ≡ 1 → n % 2 ≡ 1 → m * 2 ^ a ≡ n * 2 ^ b → (m ≡ n) × (a ≡ b)
odd_pow m n zero zero o p h = (sym (mul-one m) ∙ h ∙ mul-one n, refl)
odd_pow m n zero (suc b) o p h = absurd (even_odd m (n * 2 ^ b) o (sym (mul-one m) ∙ h ∙ ap (λ (x : ℕ). n * x) (pow-succ' 2 b) ∙ mul_left_comm n 2 (2 ^ b)))
odd_pow m n (suc a) zero o p h = absurd (even_odd n (m * 2 ^ a) p (sym (mul-one n) ∙ sym h ∙ ap (λ (x : ℕ). m * x) (pow-succ' 2 a) ∙ mul_left_comm m 2 (2 ^ a)))
odd_pow m n (suc a) (suc b) o p h =
    let r = odd_pow m n a b o p (eq_of_mul-eq-mul_right 2 (zero-lt-suc 1) (m * 2 ^ a) (n * 2 ^ b)
    (mul_assoc m (2 ^ a) 2 ∙ ap (λ (x : ℕ). m * x) (sym (pow-suc 2 a)) ∙ h ∙ ap (λ (x : ℕ). n * x) (pow-suc 2 b) ∙ sym (mul_assoc n (2 ^ b) 2))) in
    (r.0, ap suc r.1)

no_suc : (a b : ℕ) → a + suc b ≡ 0 → ⊥
no_suc a b h = omega arith

less : (a b : ℕ) → suc a ≡ suc b → a ≡ b
less a b h = omega arith

-- two odd numbers with their exponents, of one size: m * 2 ^ e ≡ n * 2 ^ g
one_size : (m n : ℕ) (e g : ℤ) → m % 2 ≡ 1 → n % 2 ≡ 1 → m * up e * down g ≡ n * up g * down e → (m ≡ n) × (e ≡ g)
one_size m n (pos a) (pos b) o p h = let r = odd_pow m n a b o p (sym (mul-one (m * 2 ^ a)) ∙ h ∙ mul-one (n * 2 ^ b)) in (r.0, ap pos r.1)
one_size m n (pos a) (negsuc b) o p h =
    absurd (no_suc a b (odd_pow m n (a + suc b) 0 o p (ap (λ (x : ℕ). m * x) (pow-add 2 a (suc b)) ∙ sym (mul_assoc m (2 ^ a) (2 ^ suc b)) ∙ h ∙ mul-one (n * 1))).1)
one_size m n (negsuc a) (pos b) o p h =
    absurd (no_suc b a (sym (odd_pow m n 0 (b + suc a) o p (sym (mul-one (m * 1)) ∙ h ∙ mul_assoc n (2 ^ b) (2 ^ suc a) ∙ ap (λ (x : ℕ). n * x) (sym (pow-add 2 b (suc a))))).1))
one_size m n (negsuc a) (negsuc b) o p h =
    let r = odd_pow m n (suc b) (suc a) o p (ap (λ (x : ℕ). x * 2 ^ suc b) (sym (mul-one m)) ∙ h ∙ ap (λ (x : ℕ). x * 2 ^ suc a) (mul-one n)) in
    (r.0, ap negsuc (less a b (sym r.1)))

-- what two values that are N / d in size have to do with each other
crosswise : (m n : ℕ) (e g : ℤ) (N d : ℕ) → 0 < d → m * up e * d ≡ N * down e → n * up g * d ≡ N * down g → m * up e * down g ≡ n * up g * down e
crosswise m n e g N d p v w =
    eq_of_mul-eq-mul_right d p (m * up e * down g) (n * up g * down e)
    (mul_right_comm (m * up e) (down g) d
    ∙ ap (λ (x : ℕ). x * down g) v
    ∙ mul_right_comm N (down e) (down g)
    ∙ ap (λ (x : ℕ). x * down e) (sym w)
    ∙ mul_right_comm (n * up g) d (down e))

not_zero : (m : ℕ) (e g : ℤ) → suc m * up e * down g ≡ 0 → ⊥
not_zero m e g h = lt_irrefl 0 (rw h at (mul-pos (mul-pos (zero-lt-suc m) (up_pos e)) (down_pos g)))

nothing : (e g : ℤ) → zero * up e * down g ≡ 0
nothing e g = ap (λ (x : ℕ). x * down g) (zero-mul (up e)) ∙ zero-mul (down g)

one_value : (s t : Bool) (m n : ℕ) (e g : ℤ) → T (fits binary64 (fin s m e)) → T (fits binary64 (fin t n g)) → s ≡ t → m * up e * down g ≡ n * up g * down e → fin s m e ≡ fin t n g
one_value s t zero zero e g p q b h = λ i. fin (b i) zero ((zero_exponent s e p ∙ sym (zero_exponent t g q)) i)
one_value s t zero (suc n) e g p q b h = absurd (not_zero n g e (sym h ∙ nothing e g))
one_value s t (suc m) zero e g p q b h = absurd (not_zero m e g (h ∙ nothing g e))
one_value s t (suc m) (suc n) e g p q b h =
    let r = one_size (suc m) (suc n) e g (odd_digits s m e p) (odd_digits t n g q) h in
    λ i. fin (b i) (r.0 i) (r.1 i)

pub once : (x y : Float) (z : ℤ) (d : ℕ) → 0 < d → T (fits binary64 x) → T (fits binary64 y) → Exactly x z d → Exactly y z d → x ≡ y
once nan y z d p f g v w = absurd v
once (inf s) y z d p f g v w = absurd v
once (fin s m e) nan z d p f g v w = absurd w
once (fin s m e) (inf t) z d p f g v w = absurd w
once (fin s m e) (fin t n h) (pos k) d p f g v w = one_value s t m n e h f g (v.0 ∙ sym w.0) (crosswise m n e h k d p v.1 w.1)
once (fin s m e) (fin t n h) (negsuc k) d p f g v w = one_value s t m n e h f g (v.0 ∙ sym w.0) (crosswise m n e h (suc k) d p v.1 w.1)
