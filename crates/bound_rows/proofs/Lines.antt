-- Coefficients that lie on a line give a line: the value of d x, d x + (y − x), .., d y at the weights p, r is d (p + r)^(d − 1) (r x + p y).
use mathlib.Core.Path.{◌≡◌, refl, ◌∙◌, ap, ap₂}
use mathlib.Core.List.{[], ◌∷◌}
use Prim.Native.Nat.{ℕ, zero, suc, ◌-◌, ◌<◌}
use native.Mathlib.Nat.{not-suc-le-zero}
use native.Mathlib.Omega.{arith}
use lib.IntN.{ℤ, pos, ◌+ℤ◌, ◌-ℤ◌, ◌*ℤ◌, pow, one}
use Rattle.integers.proofs.Ring.{ring, sides}
use Rattle.curve_bernstein.proofs.Recursion.{casteljau, casteljau_ext}

module _ (p r : ℤ) where
  steps : (e : ℕ) (x z : ℤ) → casteljau p r (suc e) (λ k. x +ℤ pos k *ℤ z) ≡ pow (p +ℤ r) e *ℤ ((p +ℤ r) *ℤ x +ℤ pos (suc e) *ℤ p *ℤ z)
  unfolding casteljau pow one
  steps zero x z = ring (p ∷ r ∷ x ∷ z ∷ []) (search sides depth 40 fits 9999) refl
  steps (suc e) x z =
      ap₂ (λ u v. r *ℤ u +ℤ p *ℤ v) (steps e x z)
      (casteljau_ext p r (suc e) (λ k. x +ℤ pos (suc k) *ℤ z) (λ k. x +ℤ z +ℤ pos k *ℤ z) (λ k l. next k) ∙ steps e (x +ℤ z) z)
      ∙ ring (p ∷ r ∷ x ∷ z ∷ pow (p +ℤ r) e ∷ pos e ∷ []) (search sides depth 40 fits 9999) refl
    where
      next : (k : ℕ) → x +ℤ pos (suc k) *ℤ z ≡ x +ℤ z +ℤ pos k *ℤ z
      next k = ring (x ∷ z ∷ pos k ∷ []) (search sides depth 20) refl

  pub casteljau_line : (d : ℕ) → 0 < d → (x y : ℤ)
      → casteljau p r d (λ k. pos d *ℤ x +ℤ pos k *ℤ (y -ℤ x)) ≡ pos d *ℤ pow (p +ℤ r) (d - 1) *ℤ (r *ℤ x +ℤ p *ℤ y)
  casteljau_line zero h x y = absurd (not-suc-le-zero h)
  casteljau_line (suc e) h x y =
      steps e (pos (suc e) *ℤ x) (y -ℤ x)
      ∙ ring (p ∷ r ∷ x ∷ y ∷ pow (p +ℤ r) e ∷ pos e ∷ []) (search sides depth 40 fits 9999) refl
      ∙ ap (λ (n : ℕ). pos (suc e) *ℤ pow (p +ℤ r) n *ℤ (r *ℤ x +ℤ p *ℤ y)) less_one
    where
      less_one : e ≡ suc e - 1
      less_one = omega arith
