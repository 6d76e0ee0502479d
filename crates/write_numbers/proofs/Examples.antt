-- Numbers at the edges as they are written, each by computation.
use mathlib.Core.Path.{◌≡◌, refl}
use mathlib.Core.List.{[], ◌∷◌}
use lib.IntN.{pos, neg_ℤ}
use Rattle.write_numbers.specs.Digits.{digits}
use Rattle.write_numbers.specs.Decimals.{decimal, spaced, spaced_natural}

pub zero_written : decimal (pos 0) ≡ 48 ∷ []
unfolding decimal digits
zero_written = refl

-- 10 and −38
pub ten_written : decimal (pos 10) ≡ 49 ∷ 48 ∷ []
unfolding decimal digits
ten_written = refl

pub below_zero_written : spaced (neg_ℤ (pos 38)) ≡ 32 ∷ 45 ∷ 51 ∷ 56 ∷ []
unfolding spaced decimal digits
below_zero_written = refl

-- the ends of 32 bits
pub greatest_written : decimal (pos 2147483647) ≡ 50 ∷ 49 ∷ 52 ∷ 55 ∷ 52 ∷ 56 ∷ 51 ∷ 54 ∷ 52 ∷ 55 ∷ []
unfolding decimal digits
greatest_written = refl

pub least_written : decimal (neg_ℤ (pos 2147483648)) ≡ 45 ∷ 50 ∷ 49 ∷ 52 ∷ 55 ∷ 52 ∷ 56 ∷ 51 ∷ 54 ∷ 52 ∷ 56 ∷ []
unfolding decimal digits
least_written = refl

-- the end of 64 bits
pub greatest_natural_written : spaced_natural 18446744073709551615
    ≡ 32 ∷ 49 ∷ 56 ∷ 52 ∷ 52 ∷ 54 ∷ 55 ∷ 52 ∷ 52 ∷ 48 ∷ 55 ∷ 51 ∷ 55 ∷ 48 ∷ 57 ∷ 53 ∷ 53 ∷ 49 ∷ 54 ∷ 49 ∷ 53 ∷ []
unfolding spaced_natural digits
greatest_natural_written = refl
