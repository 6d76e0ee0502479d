-- Numerals at the edges, each by computation: leading zeros, −0, the ends of 32 bits, and digits without end.
use mathlib.Core.Path.{◌≡◌, refl}
use mathlib.Core.List.{List, [], ◌∷◌}
use Prim.Native.Nat.{ℕ}
use lib.IntN.{pos, neg_ℤ}
use lib.ListN.{replicate}
use Rattle.std.specs.Prelude.{Some, None}
use Rattle.text_numbers.specs.Numerals.{value_from, digit_count, natural_at, number_at}

-- 0, and 007: the number is 0, and what follows it is not read
pub zero_alone : number_at (48 ∷ []) 0 ≡ Some (pos 0, 1)
unfolding number_at
zero_alone = refl

pub leading_zeros : number_at (48 ∷ 48 ∷ 55 ∷ []) 0 ≡ Some (pos 0, 1)
unfolding number_at
leading_zeros = refl

-- −0
pub minus_zero : number_at (45 ∷ 48 ∷ []) 0 ≡ None
unfolding number_at natural_at
minus_zero = refl

-- 2147483647, and one more on either side of zero
abbrev most : ℕ → List ℕ
most last = 50 ∷ 49 ∷ 52 ∷ 55 ∷ 52 ∷ 56 ∷ 51 ∷ 54 ∷ 52 ∷ last ∷ []

pub greatest : number_at (most 55) 0 ≡ Some (pos 2147483647, 10)
unfolding number_at natural_at value_from digit_count
greatest = refl

pub past_greatest : number_at (most 56) 0 ≡ None
unfolding number_at natural_at value_from digit_count
past_greatest = refl

pub least : number_at (45 ∷ most 56) 0 ≡ Some (neg_ℤ (pos 2147483648), 11)
unfolding number_at natural_at value_from digit_count
least = refl

pub past_least : number_at (45 ∷ most 57) 0 ≡ None
unfolding number_at natural_at value_from digit_count
past_least = refl

-- a thousand nines
pub thousand_digits : number_at (replicate 1000 57) 0 ≡ None
unfolding number_at natural_at value_from digit_count
thousand_digits = refl
