-- Decimal numbers as bytes: their digits, the minus byte 45 and the space byte 32.
use Rattle.std.specs.Prelude.{cond, List, ◌∷◌, ℕ, ℤ, pos, nat_abs}
use Rattle.std.specs.Int.Signed.{lt_z}
use Rattle.write_numbers.specs.Digits.{digits}

-- a number of 32 bits, which has no more than 10 digits
unfoldable pub decimal : ℤ → List ℕ
decimal z = cond (lt_z z (pos 0)) (45 ∷ digits 10 (nat_abs z)) (digits 10 (nat_abs z))

unfoldable pub spaced : ℤ → List ℕ
spaced z = 32 ∷ decimal z

-- a natural of 64 bits, which has no more than 20
unfoldable pub spaced_natural : ℕ → List ℕ
spaced_natural n = 32 ∷ digits 20 n
