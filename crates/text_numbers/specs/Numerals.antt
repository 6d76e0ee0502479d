-- Decimal numbers in a text (document 01, "Text program"): without leading zeros or −0, the minus being byte 45, within
-- 32 bits signed. A text is the list of its bytes, and a place is an index, from 0.
use Rattle.std.specs.Prelude.{Bool, ◌&&◌, cond, List, [], ◌∷◌, ℕ, suc, ◌+◌, ◌-◌, ◌*◌, leb, eqb, get_or, drop}
use Rattle.std.specs.Prelude.{ℤ, pos, neg_ℤ, Option, Some, None}

-- the byte at place i; past the end it is 0, which no numeral and no form has
abbrev pub byte : List ℕ → ℕ → ℕ
byte s i = get_or s i 0

-- 0 to 9 are the bytes 48 to 57
abbrev pub is_digit : ℕ → Bool
is_digit b = leb 48 b && leb b 57

-- the digits that a list of bytes starts with: the value when they are read on from v, and how many they are
unfoldable pub value_from : ℕ → List ℕ → ℕ
value_from v [] = v
value_from v (b ∷ bs) = cond (is_digit b) (value_from (10 * v + (b - 48)) bs) v

unfoldable pub digit_count : List ℕ → ℕ
digit_count [] = 0
digit_count (b ∷ bs) = cond (is_digit b) (suc (digit_count bs)) 0

-- digits at place i, the first of them 1 to 9, of a value up to 2^31: the value, and the place after them
unfoldable pub natural_at : List ℕ → ℕ → Option (ℕ × ℕ)
natural_at s i =
    cond (leb 49 (byte s i) && leb (byte s i) 57 && leb (value_from 0 (drop i s)) 2147483648)
    (Some (value_from 0 (drop i s), i + digit_count (drop i s)))
    None

-- with a sign: 2^31 is in range only below zero
abbrev pub plus : Option (ℕ × ℕ) → Option (ℤ × ℕ)
plus (Some (n, next)) = cond (leb n 2147483647) (Some (pos n, next)) None
plus None = None

abbrev pub minus : Option (ℕ × ℕ) → Option (ℤ × ℕ)
minus (Some (n, next)) = Some (neg_ℤ (pos n), next)
minus None = None

-- the number at place i, and the place after it: a 0 by itself, or digits that start with none, after a minus or not
unfoldable pub number_at : List ℕ → ℕ → Option (ℤ × ℕ)
number_at s i =
    cond (eqb (byte s i) 48) (Some (pos 0, i + 1))
    (cond (eqb (byte s i) 45) (minus (natural_at s (i + 1)))
    (plus (natural_at s i)))
