-- Every rational parameter has a place on some piece, and any two weights on a piece are the place of a rational parameter.
use mathlib.Core.Path.{◌≡◌, refl, ◌∙◌, ap, ap₂}
use mathlib.Core.Logic.{⊎_elim}
use mathlib.Core.List.{List, [], ◌∷◌}
use Prim.Native.Nat.{ℕ, zero, suc, ◌+◌, ◌*◌, ◌-◌, ◌≤◌, ◌<◌}
use native.Mathlib.Nat.{le_refl, suc-mul, mul-le-mul}
use native.Mathlib.Omega.{arith}
use lib.IntN.{ℤ, pos, nat_abs, ◌+ℤ◌, ◌-ℤ◌, ◌*ℤ◌}
use Rattle.integers.proofs.Ring.{ring, sides}
use Rattle.integers.proofs.Order.{lt_or_ge}
use Rattle.bound_rows.specs.Joined.{Place}

pub record Located (m p r : ℕ) : Type 0 where
  pub piece : ℕ
  pub near : ℕ
  pub far : ℕ
  pub inside : piece < m
  pub place : Place m piece near far p r

module _ (m p r : ℕ) where
  found : (i a b : ℕ) → i < m → a + m * p ≡ suc i * (p + r) → b + i * (p + r) ≡ m * p → Located m p r
  found i a b hi e f =
      record { piece = i; near = a; far = b; inside = hi; place = record { whole = omega (arith, suc-mul i (p + r)); at = ap nat_abs here } }
    where
      atoms : List ℤ
      atoms = pos m ∷ pos p ∷ pos r ∷ pos i ∷ pos a ∷ pos b ∷ []

      -- both equations, each with the weight that cancels what is not wanted
      left : ℤ → ℤ → ℤ
      left x y = pos (m * p) +ℤ pos i *ℤ (x -ℤ pos (suc i * (p + r))) +ℤ pos (suc i) *ℤ (y -ℤ pos (m * p))

      here : pos (a * i + b * suc i) ≡ pos (m * p)
      here =
          ring atoms {b = left (pos (a + m * p)) (pos (b + i * (p + r)))} (search sides depth 20) refl
          ∙ ap₂ left (ap pos e) (ap pos f)
          ∙ ring atoms {a = left (pos (suc i * (p + r))) (pos (m * p))} (search sides depth 20) refl

  module _ (some : 0 < m) where
    -- the last piece that starts at or before the parameter, from piece n down
    go : (n : ℕ) → n ≤ m → m * p ≤ n * (p + r) → Located m p r
    go zero l h = found 0 (1 * (p + r) - m * p) (m * p) some (omega arith) (omega arith)
    go (suc n) l h = ⊎_elim
        (λ t. go n (omega arith) (omega arith))
        (λ t. found n (suc n * (p + r) - m * p) (m * p - n * (p + r)) l (omega arith) (omega arith))
        (lt_or_ge (m * p) (n * (p + r)))

    pub located : Located m p r
    located = go m (le_refl m) (mul-le-mul (le_refl m) (omega arith))

-- The place at the weights a and b of piece i: they come m-fold.
pub place_at : (m i a b : ℕ) → i < m → Place m i (m * a) (m * b) (a * i + b * suc i) (a * (m - i) + b * (m - suc i))
place_at m i a b hi = record { whole = ap nat_abs all; at = ap nat_abs ends }
  where
    past : m ≡ i + (m - i)
    past = omega arith

    beyond : m ≡ suc i + (m - suc i)
    beyond = omega arith

    ends : pos (m * a * i + m * b * suc i) ≡ pos (m * (a * i + b * suc i))
    ends = ring (pos m ∷ pos i ∷ pos a ∷ pos b ∷ []) (search sides depth 20) refl

    all : pos (m * a + m * b) ≡ pos (a * i + b * suc i + (a * (m - i) + b * (m - suc i)))
    all =
        ring (pos m ∷ pos a ∷ pos b ∷ []) {b = pos a *ℤ pos m +ℤ pos b *ℤ pos m} (search sides depth 20) refl
        ∙ ap₂ (λ (x y : ℕ). pos a *ℤ pos x +ℤ pos b *ℤ pos y) past beyond
        ∙ ring (pos i ∷ pos a ∷ pos b ∷ pos (m - i) ∷ pos (m - suc i) ∷ []) (search sides depth 20) refl
