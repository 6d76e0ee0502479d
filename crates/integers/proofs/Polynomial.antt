-- The two sides of an equation of integers as expressions, and their normal form. Two expressions with one normal form are equal at all
-- values (`same_value`), and whether they have is computed. `ring`, in Ring.antt, is how proofs use this.
-- A normal form over the variables x₀, x₁, .. is a number, or `horner c q`, which is c + x₀ · q, with c over x₁, x₂, ...
use mathlib.Core.Path.{◌≡◌, refl, sym, ◌∙◌, ap, ap₂}
use mathlib.Core.List.{List, [], ◌∷◌}
use Prim.Native.Nat.{ℕ, zero, suc}
use lib.IntN.{ℤ, pos, negsuc, neg_ℤ, ◌+ℤ◌, ◌-ℤ◌, ◌*ℤ◌, one, pow, +ℤ_idl, +ℤ_idr, +ℤ_assoc, -ℤ-+ℤ_cancel, *ℤ-zero}
use Rattle.integers.proofs.RingLaws.{*ℤ_1, one-*ℤ, neg-*ℤ, *ℤ_distl, *ℤ_distr, *ℤ_assoc, *ℤ_left_comm, +ℤ_swap4, +ℤ_right_comm}
use Rattle.integers.specs.Entry.{entry}

-- ---- expressions, and their values
infixl 6 ◌⊕◌ ◌⊖◌
infixl 7 ◌⊗◌
pub data Expr : Type 0 where
  var : ℕ → Expr
  lit : ℤ → Expr
  ◌⊕◌ : Expr → Expr → Expr
  ◌⊖◌ : Expr → Expr → Expr
  ◌⊗◌ : Expr → Expr → Expr
  neg : Expr → Expr
  power : Expr → ℕ → Expr

abbrev pub tail : List ℤ → List ℤ
tail [] = []
tail (x ∷ ρ) = ρ

tail_entry : (ρ : List ℤ) (i : ℕ) → entry (tail ρ) i ≡ entry ρ (suc i)
tail_entry [] i = refl
tail_entry (x ∷ ρ) i = refl

abbrev pub value : Expr → List ℤ → ℤ
value (var i) ρ = entry ρ i
value (lit a) ρ = a
value (a ⊕ b) ρ = value a ρ +ℤ value b ρ
value (a ⊖ b) ρ = value a ρ -ℤ value b ρ
value (a ⊗ b) ρ = value a ρ *ℤ value b ρ
value (neg a) ρ = neg_ℤ (value a ρ)
value (power a n) ρ = pow (value a ρ) n

-- ---- normal forms, and their values
pub data Normal : Type 0 where
  num : ℤ → Normal
  horner : Normal → Normal → Normal

abbrev pub eval : Normal → List ℤ → ℤ
eval (num a) ρ = a
eval (horner c q) ρ = eval c (tail ρ) +ℤ entry ρ 0 *ℤ eval q ρ

-- c + x₀ · q, a number where it is one
abbrev pub horner' : Normal → Normal → Normal
horner' (num a) (num (pos zero)) = num a
horner' (num a) (num (pos (suc n))) = horner (num a) (num (pos (suc n)))
horner' (num a) (num (negsuc n)) = horner (num a) (num (negsuc n))
horner' (num a) (horner c q) = horner (num a) (horner c q)
horner' (horner c q) r = horner (horner c q) r

abbrev pub add : Normal → Normal → Normal
add (num a) (num b) = num (a +ℤ b)
add (num a) (horner c q) = horner (add (num a) c) q
add (horner c q) (num b) = horner (add c (num b)) q
add (horner c q) (horner c' q') = horner' (add c c') (add q q')

abbrev pub scale : ℤ → Normal → Normal
scale a (num b) = num (a *ℤ b)
scale a (horner c q) = horner' (scale a c) (scale a q)

-- f at each coefficient
abbrev pub over : (Normal → Normal) → Normal → Normal
over f (num b) = horner' (f (num b)) (num (pos 0))
over f (horner c q) = horner' (f c) (over f q)

abbrev pub mul : Normal → Normal → Normal
mul (num a) p = scale a p
mul (horner c q) p = add (over (mul c) p) (horner' (num (pos 0)) (mul q p))

abbrev pub variable : ℕ → Normal
variable zero = horner (num (pos 0)) (num (pos 1))
variable (suc i) = horner (variable i) (num (pos 0))

abbrev pub powered : Normal → ℕ → Normal
powered p zero = num (pos 1)
powered p (suc n) = mul (powered p n) p

abbrev pub normal : Expr → Normal
normal (var i) = variable i
normal (lit a) = num a
normal (a ⊕ b) = add (normal a) (normal b)
normal (a ⊖ b) = add (normal a) (scale (negsuc 0) (normal b))
normal (a ⊗ b) = mul (normal a) (normal b)
normal (neg a) = scale (negsuc 0) (normal a)
normal (power a n) = powered (normal a) n

-- ---- the normal form has the expression's value
eval_horner : (c q : Normal) (ρ : List ℤ) → eval (horner' c q) ρ ≡ eval c (tail ρ) +ℤ entry ρ 0 *ℤ eval q ρ
eval_horner (num a) (num (pos zero)) ρ = sym (ap (λ x. a +ℤ x) (*ℤ-zero (entry ρ 0)) ∙ +ℤ_idr a)
eval_horner (num a) (num (pos (suc n))) ρ = refl
eval_horner (num a) (num (negsuc n)) ρ = refl
eval_horner (num a) (horner c q) ρ = refl
eval_horner (horner c q) r ρ = refl

eval_add : (p q : Normal) (ρ : List ℤ) → eval (add p q) ρ ≡ eval p ρ +ℤ eval q ρ
eval_add (num a) (num b) ρ = refl
eval_add (num a) (horner c q) ρ = ap (λ x. x +ℤ entry ρ 0 *ℤ eval q ρ) (eval_add (num a) c (tail ρ))
    ∙ +ℤ_assoc a (eval c (tail ρ)) (entry ρ 0 *ℤ eval q ρ)
eval_add (horner c q) (num b) ρ = ap (λ x. x +ℤ entry ρ 0 *ℤ eval q ρ) (eval_add c (num b) (tail ρ))
    ∙ +ℤ_right_comm (eval c (tail ρ)) b (entry ρ 0 *ℤ eval q ρ)
eval_add (horner c q) (horner c' q') ρ =
    eval_horner (add c c') (add q q') ρ
    ∙ ap₂ (λ x y. x +ℤ entry ρ 0 *ℤ y) (eval_add c c' (tail ρ)) (eval_add q q' ρ)
    ∙ ap (λ x. eval c (tail ρ) +ℤ eval c' (tail ρ) +ℤ x) (*ℤ_distl (entry ρ 0) (eval q ρ) (eval q' ρ))
    ∙ +ℤ_swap4 (eval c (tail ρ)) (eval c' (tail ρ)) (entry ρ 0 *ℤ eval q ρ) (entry ρ 0 *ℤ eval q' ρ)

times : (k c h q : ℤ) → k *ℤ c +ℤ h *ℤ (k *ℤ q) ≡ k *ℤ (c +ℤ h *ℤ q)
times k c h q = ap (λ x. k *ℤ c +ℤ x) (*ℤ_left_comm h k q) ∙ sym (*ℤ_distl k c (h *ℤ q))

eval_scale : (a : ℤ) (p : Normal) (ρ : List ℤ) → eval (scale a p) ρ ≡ a *ℤ eval p ρ
eval_scale a (num b) ρ = refl
eval_scale a (horner c q) ρ =
    eval_horner (scale a c) (scale a q) ρ
    ∙ ap₂ (λ x y. x +ℤ entry ρ 0 *ℤ y) (eval_scale a c (tail ρ)) (eval_scale a q ρ)
    ∙ times a (eval c (tail ρ)) (entry ρ 0) (eval q ρ)

eval_over : (f : Normal → Normal) (k : ℤ) (ρ : List ℤ) → ((x : Normal) → eval (f x) (tail ρ) ≡ k *ℤ eval x (tail ρ))
    → (p : Normal) → eval (over f p) ρ ≡ k *ℤ eval p ρ
eval_over f k ρ h (num b) = eval_horner (f (num b)) (num (pos 0)) ρ ∙ ap₂ ◌+ℤ◌ (h (num b)) (*ℤ-zero (entry ρ 0)) ∙ +ℤ_idr (k *ℤ b)
eval_over f k ρ h (horner c q) =
    eval_horner (f c) (over f q) ρ
    ∙ ap₂ (λ x y. x +ℤ entry ρ 0 *ℤ y) (h c) (eval_over f k ρ h q)
    ∙ times k (eval c (tail ρ)) (entry ρ 0) (eval q ρ)

eval_mul : (p q : Normal) (ρ : List ℤ) → eval (mul p q) ρ ≡ eval p ρ *ℤ eval q ρ
eval_mul (num a) p ρ = eval_scale a p ρ
eval_mul (horner c q) p ρ =
    eval_add (over (mul c) p) (horner' (num (pos 0)) (mul q p)) ρ
    ∙ ap₂ ◌+ℤ◌ (eval_over (mul c) (eval c (tail ρ)) ρ (λ x. eval_mul c x (tail ρ)) p)
    (eval_horner (num (pos 0)) (mul q p) ρ ∙ +ℤ_idl (entry ρ 0 *ℤ eval (mul q p) ρ)
    ∙ ap (λ x. entry ρ 0 *ℤ x) (eval_mul q p ρ) ∙ sym (*ℤ_assoc (entry ρ 0) (eval q ρ) (eval p ρ)))
    ∙ sym (*ℤ_distr (eval c (tail ρ)) (entry ρ 0 *ℤ eval q ρ) (eval p ρ))

eval_variable : (i : ℕ) (ρ : List ℤ) → eval (variable i) ρ ≡ entry ρ i
eval_variable zero ρ = +ℤ_idl (entry ρ 0 *ℤ pos 1) ∙ *ℤ_1 (entry ρ 0)
eval_variable (suc i) ρ = ap₂ ◌+ℤ◌ (eval_variable i (tail ρ)) (*ℤ-zero (entry ρ 0)) ∙ +ℤ_idr (entry (tail ρ) i) ∙ tail_entry ρ i

eval_neg : (p : Normal) (ρ : List ℤ) → eval (scale (negsuc 0) p) ρ ≡ neg_ℤ (eval p ρ)
eval_neg p ρ = eval_scale (negsuc 0) p ρ ∙ neg-*ℤ (pos 1) (eval p ρ) ∙ ap neg_ℤ (one-*ℤ (eval p ρ))

eval_power : (p : Normal) (n : ℕ) (ρ : List ℤ) → eval (powered p n) ρ ≡ pow (eval p ρ) n
unfolding one pow
eval_power p zero ρ = refl
eval_power p (suc n) ρ = eval_mul (powered p n) p ρ ∙ ap (λ x. x *ℤ eval p ρ) (eval_power p n ρ)

pub sound : (e : Expr) (ρ : List ℤ) → value e ρ ≡ eval (normal e) ρ
sound (var i) ρ = sym (eval_variable i ρ)
sound (lit a) ρ = refl
sound (a ⊕ b) ρ = ap₂ ◌+ℤ◌ (sound a ρ) (sound b ρ) ∙ sym (eval_add (normal a) (normal b) ρ)
sound (a ⊖ b) ρ = ap₂ ◌+ℤ◌ (sound a ρ) (ap neg_ℤ (sound b ρ) ∙ sym (eval_neg (normal b) ρ)) ∙ sym (eval_add (normal a) (scale (negsuc 0) (normal b)) ρ)
sound (a ⊗ b) ρ = ap₂ ◌*ℤ◌ (sound a ρ) (sound b ρ) ∙ sym (eval_mul (normal a) (normal b) ρ)
sound (neg a) ρ = ap neg_ℤ (sound a ρ) ∙ sym (eval_neg (normal a) ρ)
sound (power a n) ρ = ap (λ x. pow x n) (sound a ρ) ∙ sym (eval_power (normal a) n ρ)

-- two expressions whose difference comes to 0 are equal at all values
pub same_value : (ρ : List ℤ) (l r : Expr) → normal (l ⊖ r) ≡ num (pos 0) → value l ρ ≡ value r ρ
same_value ρ l r h =
    sym (-ℤ-+ℤ_cancel (value l ρ) (value r ρ))
    ∙ ap (λ x. x +ℤ value r ρ) (sound (l ⊖ r) ρ ∙ ap (λ p. eval p ρ) h)
    ∙ +ℤ_idl (value r ρ)
