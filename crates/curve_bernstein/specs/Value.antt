-- The value of a polynomial from its Bernstein coefficients (document 01: "the Bernstein sum").
use Rattle.std.specs.Prelude.{List, ℕ, zero, suc, ◌+◌, ◌-◌, ℤ, pos, ◌+ℤ◌, ◌*ℤ◌}
use Rattle.std.proofs.Math.IntN.{pow}
use Rattle.integers.specs.Entry.{entry}

-- "d choose i", by Pascal's triangle
unfoldable pub choose : ℕ → ℕ → ℕ
choose d zero = 1
choose zero (suc i) = 0
choose (suc d) (suc i) = choose d i + choose d (suc i)

-- f 0 + f 1 + .. + f d
unfoldable pub sum : ℕ → (ℕ → ℤ) → ℤ
sum zero f = f 0
sum (suc d) f = sum d f +ℤ f (suc d)

-- With t = p / (p + r), this is (p + r)^d times the sum over i from 0 to d of
-- (d choose i) · c_i · t^i · (1 − t)^(d − i). p and r are the weights of t and of 1 − t: as whole numbers that are not
-- negative and not both 0 they give every fraction t from 0 to 1.
unfoldable pub value : (p r : ℤ) (d : ℕ) → List ℤ → ℤ
value p r d cs = sum d (λ i. pos (choose d i) *ℤ entry cs i *ℤ pow p i *ℤ pow r (d - i))
