-- The ring laws of ℤ that `lib.IntN` leaves out. Assumes nothing.
use mathlib.Core.Path.{◌≡◌, sym, ◌∙◌, ap, ap₂}
use Prim.Native.Nat.{ℕ, zero, suc, ◌^◌, ◌-◌, ◌<◌}
use native.Mathlib.Nat.{pow-zero, pow-suc, not-suc-le-zero}
use native.Mathlib.Omega.{arith}
use lib.IntN.{ℤ, pos, negsuc, suc_ℤ, pred_ℤ, neg_ℤ, ◌+ℤ◌, ◌-ℤ◌, ◌*ℤ◌, pow, one, suc_ℤ-+ℤ, pred_ℤ-+ℤ, +ℤ_idl, +ℤ_assoc, +ℤ_comm, neg_ℤ-+ℤ, neg_ℤ-neg_ℤ}
use lib.IntN.{neg_ℤ-suc_ℤ, neg_ℤ-pred_ℤ, *ℤ_comm, *ℤ-one, zero-*ℤ, suc_ℤ-*ℤ, pred_ℤ-*ℤ}

-- induction by successor and predecessor
pub induct {ℓ} : (P : ℤ → Type ℓ) → P (pos zero) → ((k : ℤ) → P k → P (suc_ℤ k)) → ((k : ℤ) → P k → P (pred_ℤ k)) → (k : ℤ) → P k
induct P z s p (pos zero) = z
induct P z s p (pos (suc n)) = s (pos n) (induct P z s p (pos n))
induct P z s p (negsuc zero) = p (pos zero) z
induct P z s p (negsuc (suc n)) = p (negsuc n) (induct P z s p (negsuc n))

pub one-*ℤ : (k : ℤ) → pos 1 *ℤ k ≡ k
unfolding one
one-*ℤ k = *ℤ_comm (pos 1) k ∙ *ℤ-one k

pub *ℤ_1 : (k : ℤ) → k *ℤ pos 1 ≡ k
unfolding one
*ℤ_1 k = *ℤ-one k

-- ---- sums, regrouped
pub +ℤ_left_comm : (a b c : ℤ) → a +ℤ (b +ℤ c) ≡ b +ℤ (a +ℤ c)
+ℤ_left_comm a b c = sym (+ℤ_assoc a b c) ∙ ap (λ x. x +ℤ c) (+ℤ_comm a b) ∙ +ℤ_assoc b a c

pub +ℤ_right_comm : (a b c : ℤ) → a +ℤ b +ℤ c ≡ a +ℤ c +ℤ b
+ℤ_right_comm a b c = +ℤ_assoc a b c ∙ ap (λ x. a +ℤ x) (+ℤ_comm b c) ∙ sym (+ℤ_assoc a c b)

pub +ℤ_swap4 : (a b c d : ℤ) → (a +ℤ b) +ℤ (c +ℤ d) ≡ (a +ℤ c) +ℤ (b +ℤ d)
+ℤ_swap4 a b c d = +ℤ_assoc a b (c +ℤ d) ∙ ap (λ x. a +ℤ x) (+ℤ_left_comm b c d) ∙ sym (+ℤ_assoc a c (b +ℤ d))

-- ---- the product and the sum
pub *ℤ_distr : (a b k : ℤ) → (a +ℤ b) *ℤ k ≡ a *ℤ k +ℤ b *ℤ k
*ℤ_distr a b k = induct (λ (x : ℤ). (x +ℤ b) *ℤ k ≡ x *ℤ k +ℤ b *ℤ k)
    (ap (λ x. x *ℤ k) (+ℤ_idl b) ∙ sym (+ℤ_idl (b *ℤ k)) ∙ ap (λ x. x +ℤ b *ℤ k) (sym (zero-*ℤ k)))
    (λ x h. ap (λ y. y *ℤ k) (suc_ℤ-+ℤ x b) ∙ suc_ℤ-*ℤ (x +ℤ b) k ∙ ap (λ y. y +ℤ k) h
    ∙ +ℤ_right_comm (x *ℤ k) (b *ℤ k) k ∙ ap (λ y. y +ℤ b *ℤ k) (sym (suc_ℤ-*ℤ x k)))
    (λ x h. ap (λ y. y *ℤ k) (pred_ℤ-+ℤ x b) ∙ pred_ℤ-*ℤ (x +ℤ b) k ∙ ap (λ y. y -ℤ k) h
    ∙ +ℤ_right_comm (x *ℤ k) (b *ℤ k) (neg_ℤ k) ∙ ap (λ y. y +ℤ b *ℤ k) (sym (pred_ℤ-*ℤ x k)))
    a

pub *ℤ_distl : (k a b : ℤ) → k *ℤ (a +ℤ b) ≡ k *ℤ a +ℤ k *ℤ b
*ℤ_distl k a b = *ℤ_comm k (a +ℤ b) ∙ *ℤ_distr a b k ∙ ap₂ ◌+ℤ◌ (*ℤ_comm a k) (*ℤ_comm b k)

pub neg-*ℤ : (a k : ℤ) → neg_ℤ a *ℤ k ≡ neg_ℤ (a *ℤ k)
neg-*ℤ a k = induct (λ (x : ℤ). neg_ℤ x *ℤ k ≡ neg_ℤ (x *ℤ k))
    (zero-*ℤ k ∙ ap neg_ℤ (sym (zero-*ℤ k)))
    (λ x h. ap (λ y. y *ℤ k) (neg_ℤ-suc_ℤ x) ∙ pred_ℤ-*ℤ (neg_ℤ x) k ∙ ap (λ y. y -ℤ k) h ∙ sym (neg_ℤ-+ℤ (x *ℤ k) k) ∙ ap neg_ℤ (sym (suc_ℤ-*ℤ x k)))
    (λ x h. ap (λ y. y *ℤ k) (neg_ℤ-pred_ℤ x) ∙ suc_ℤ-*ℤ (neg_ℤ x) k ∙ ap₂ ◌+ℤ◌ h (sym (neg_ℤ-neg_ℤ k))
    ∙ sym (neg_ℤ-+ℤ (x *ℤ k) (neg_ℤ k)) ∙ ap neg_ℤ (sym (pred_ℤ-*ℤ x k)))
    a

pub *ℤ_neg : (a k : ℤ) → a *ℤ neg_ℤ k ≡ neg_ℤ (a *ℤ k)
*ℤ_neg a k = *ℤ_comm a (neg_ℤ k) ∙ neg-*ℤ k a ∙ ap neg_ℤ (*ℤ_comm k a)

pub *ℤ_assoc : (a b c : ℤ) → (a *ℤ b) *ℤ c ≡ a *ℤ (b *ℤ c)
*ℤ_assoc a b c = induct (λ (x : ℤ). (x *ℤ b) *ℤ c ≡ x *ℤ (b *ℤ c))
    (ap (λ x. x *ℤ c) (zero-*ℤ b) ∙ zero-*ℤ c ∙ sym (zero-*ℤ (b *ℤ c)))
    (λ x h. ap (λ y. y *ℤ c) (suc_ℤ-*ℤ x b) ∙ *ℤ_distr (x *ℤ b) b c ∙ ap (λ y. y +ℤ b *ℤ c) h ∙ sym (suc_ℤ-*ℤ x (b *ℤ c)))
    (λ x h. ap (λ y. y *ℤ c) (pred_ℤ-*ℤ x b) ∙ *ℤ_distr (x *ℤ b) (neg_ℤ b) c ∙ ap₂ ◌+ℤ◌ h (neg-*ℤ b c) ∙ sym (pred_ℤ-*ℤ x (b *ℤ c)))
    a

pub *ℤ_left_comm : (a b c : ℤ) → a *ℤ (b *ℤ c) ≡ b *ℤ (a *ℤ c)
*ℤ_left_comm a b c = sym (*ℤ_assoc a b c) ∙ ap (λ x. x *ℤ c) (*ℤ_comm a b) ∙ *ℤ_assoc b a c

-- a natural's power is a natural
pub pow_natural : (n d : ℕ) → pow (pos n) d ≡ pos (n ^ d)
unfolding pow one
pow_natural n zero = rw pow-zero
pow_natural n (suc d) = rw pow-suc (ap (λ z. z *ℤ pos n) (pow_natural n d))

pub pow_last : (x : ℤ) (d : ℕ) → 0 < d → pow x d ≡ pow x (d - 1) *ℤ x
unfolding pow
pow_last x zero h = absurd (not-suc-le-zero h)
pow_last x (suc e) h = ap (λ (n : ℕ). pow x n *ℤ x) less_one
  where
    less_one : e ≡ suc e - 1
    less_one = omega arith
