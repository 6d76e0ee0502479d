-- Worked uses of the laws of crate `integers` and of the Bernstein test, each one checked. Each answers a kind of goal that the engine's proofs have.
use mathlib.Core.Path.{◌≡◌, refl}
use mathlib.Core.List.{[], ◌∷◌}
use Prim.Native.Nat.{ℕ}
use native.Mathlib.Omega.{arith}
use lib.IntN.{ℤ, pos, negsuc, ◌+ℤ◌, ◌-ℤ◌, ◌*ℤ◌, pow}
use lib.Signed.{◌≤ℤ◌, ◌<ℤ◌}
use Rattle.integers.specs.Rounding.{floor, ceiling}
use Rattle.integers.proofs.Ring.{ring, sides}
use Rattle.integers.proofs.Linear.{le_to_ℕ, le_from_ℕ, lt_to_ℕ}
use Rattle.curve_bernstein.specs.Value.{value}
use Rattle.curve_bernstein.proofs.Nonnegative.{nonnegative_sound}

-- ---- equations
square_of_sum : (a b : ℤ) → (a +ℤ b) *ℤ (a +ℤ b) ≡ a *ℤ a +ℤ pos 2 *ℤ a *ℤ b +ℤ b *ℤ b
square_of_sum a b = ring (a ∷ b ∷ []) (search sides depth 40 fits 9999) refl

-- the left half of degree 5, times 32, has the value of the whole at p and p + 2r
left_half_5 : (p r c0 c1 c2 c3 c4 c5 : ℤ)
    → (pos 32 *ℤ c0) *ℤ pow r 5 +ℤ pos 5 *ℤ (pos 16 *ℤ c0 +ℤ pos 16 *ℤ c1) *ℤ pow r 4 *ℤ p
    +ℤ pos 10 *ℤ (pos 8 *ℤ c0 +ℤ pos 16 *ℤ c1 +ℤ pos 8 *ℤ c2) *ℤ pow r 3 *ℤ pow p 2
    +ℤ pos 10 *ℤ (pos 4 *ℤ c0 +ℤ pos 12 *ℤ c1 +ℤ pos 12 *ℤ c2 +ℤ pos 4 *ℤ c3) *ℤ pow r 2 *ℤ pow p 3
    +ℤ pos 5 *ℤ (pos 2 *ℤ c0 +ℤ pos 8 *ℤ c1 +ℤ pos 12 *ℤ c2 +ℤ pos 8 *ℤ c3 +ℤ pos 2 *ℤ c4) *ℤ r *ℤ pow p 4
    +ℤ (c0 +ℤ pos 5 *ℤ c1 +ℤ pos 10 *ℤ c2 +ℤ pos 10 *ℤ c3 +ℤ pos 5 *ℤ c4 +ℤ c5) *ℤ pow p 5
    ≡ c0 *ℤ pow (p +ℤ pos 2 *ℤ r) 5 +ℤ pos 5 *ℤ c1 *ℤ pow (p +ℤ pos 2 *ℤ r) 4 *ℤ p +ℤ pos 10 *ℤ c2 *ℤ pow (p +ℤ pos 2 *ℤ r) 3 *ℤ pow p 2
    +ℤ pos 10 *ℤ c3 *ℤ pow (p +ℤ pos 2 *ℤ r) 2 *ℤ pow p 3 +ℤ pos 5 *ℤ c4 *ℤ (p +ℤ pos 2 *ℤ r) *ℤ pow p 4 +ℤ c5 *ℤ pow p 5
left_half_5 p r c0 c1 c2 c3 c4 c5 = ring (p ∷ r ∷ c0 ∷ c1 ∷ c2 ∷ c3 ∷ c4 ∷ c5 ∷ []) (search sides depth 40 fits 9999) refl

-- a value of degree 3 is the chord and the second differences, each times its polynomial
second_differences_3 : (p r c0 c1 c2 c3 : ℤ) → pos 3 *ℤ (c0 *ℤ pow r 3 +ℤ pos 3 *ℤ c1 *ℤ pow r 2 *ℤ p +ℤ pos 3 *ℤ c2 *ℤ r *ℤ pow p 2 +ℤ c3 *ℤ pow p 3)
    ≡ pos 3 *ℤ (r *ℤ c0 +ℤ p *ℤ c3) *ℤ pow (p +ℤ r) 2
    -ℤ (c0 -ℤ pos 2 *ℤ c1 +ℤ c2) *ℤ (pos 6 *ℤ p *ℤ pow r 2 +ℤ pos 3 *ℤ pow p 2 *ℤ r)
    -ℤ (c1 -ℤ pos 2 *ℤ c2 +ℤ c3) *ℤ (pos 3 *ℤ p *ℤ pow r 2 +ℤ pos 6 *ℤ pow p 2 *ℤ r)
second_differences_3 p r c0 c1 c2 c3 = ring (p ∷ r ∷ c0 ∷ c1 ∷ c2 ∷ c3 ∷ []) (search sides depth 40 fits 9999) refl

-- ---- orders: linear steps, through `omega`
chain : (a b c d e f : ℤ) → a ≤ℤ b → b ≤ℤ c → (c +ℤ pos 3) ≤ℤ d → (pos 2 *ℤ d) ≤ℤ (e -ℤ pos 1) → e <ℤ f → pos 0 ≤ℤ d → (a +ℤ d +ℤ pos 5) ≤ℤ f
chain a b c d e f h1 h2 h3 h4 h5 h6 =
    let ρ = a ∷ b ∷ c ∷ d ∷ e ∷ f ∷ [] in
    le_from_ℕ ρ (search sides depth 20) (omega (
      arith,
      le_to_ℕ ρ (search sides depth 20) h1,
      le_to_ℕ ρ (search sides depth 20) h2,
      le_to_ℕ ρ (search sides depth 20) h3,
      le_to_ℕ ρ (search sides depth 20) h4,
      lt_to_ℕ ρ (search sides depth 20) h5,
      le_to_ℕ ρ (search sides depth 20) h6,
    ))

-- ---- rounding: also below zero
down : floor (negsuc 375) (pos 10) ≡ negsuc 37
unfolding floor
down = refl

up : ceiling (negsuc 375) (pos 10) ≡ negsuc 36
unfolding floor ceiling
up = refl

-- ---- nowhere negative, though two coefficients are
hump : (p r : ℕ) → pos 0 ≤ℤ value (pos p) (pos r) 3 (pos 4 ∷ negsuc 0 ∷ negsuc 0 ∷ pos 4 ∷ [])
hump = nonnegative_sound 3 1 (pos 4 ∷ negsuc 0 ∷ negsuc 0 ∷ pos 4 ∷ []) tt
