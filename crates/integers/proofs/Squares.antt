-- Squares and the order: larger in size, larger in square, and back.
use mathlib.Core.Path.{refl}
use mathlib.Core.Logic.{⊎_elim}
use mathlib.Core.List.{[], ◌∷◌}
use lib.IntN.{ℤ, neg_ℤ, ◌+ℤ◌}
use lib.Signed.{◌≤ℤ◌}
use Rattle.integers.specs.Squares.{squared}
use Rattle.integers.proofs.Ring.{sides}
use Rattle.integers.proofs.Order.{NonNeg, natural, square, gap, gap<, le_by, clash_by, le_or_lt, ◌+₀◌, ◌×₀◌}

-- between −b and b
pub square_within : {a b : ℤ} → neg_ℤ b ≤ℤ a → a ≤ℤ b → squared a ≤ℤ squared b
square_within {a} {b} l h = le_by (a ∷ b ∷ []) (gap l ×₀ gap h) (search sides depth 20) refl

pub square_mono : {a b : ℤ} → NonNeg a → a ≤ℤ b → squared a ≤ℤ squared b
square_mono {a} {b} some h = le_by (a ∷ b ∷ []) (gap h ×₀ gap h +₀ natural 2 ×₀ some ×₀ gap h) (search sides depth 20) refl

pub root_mono : {a b : ℤ} → NonNeg b → squared a ≤ℤ squared b → a ≤ℤ b
root_mono {a} {b} some h = ⊎_elim (λ l. l) (λ l. absurd (clash_by (a ∷ b ∷ [])
    (gap h +₀ natural 2 ×₀ some ×₀ (gap< l +₀ natural 1) +₀ gap< l ×₀ gap< l +₀ natural 2 ×₀ gap< l) (search sides depth 20) refl)) (le_or_lt a b)

pub root_below : (a : ℤ) {b : ℤ} → NonNeg b → squared a ≤ℤ squared b → neg_ℤ a ≤ℤ b
root_below a {b} some h = root_mono some (le_by (a ∷ b ∷ []) {a = squared (neg_ℤ a)} {b = squared b} (gap h) (search sides depth 20) refl)

-- one square of two
module _ (a b : ℤ) where
  pub left_square : {c : ℤ} → (squared a +ℤ squared b) ≤ℤ c → squared a ≤ℤ c
  left_square {c} h = le_by (a ∷ b ∷ c ∷ []) (gap h +₀ square b) (search sides depth 20) refl

  pub right_square : {c : ℤ} → (squared a +ℤ squared b) ≤ℤ c → squared b ≤ℤ c
  right_square {c} h = le_by (a ∷ b ∷ c ∷ []) (gap h +₀ square a) (search sides depth 20) refl
