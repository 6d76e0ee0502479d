-- What the forms of a line are made of (document 01, "Text program"): words, numbers with the byte after them, and
-- pairs of numbers. Each is read from a place of the whole text on, and gives the place after it. Past the text's end
-- stands byte 0.
use Rattle.std.specs.Prelude.{Bool, true, false, cond, List, [], ◌∷◌, ℕ, ◌+◌, eqb, drop}
use Rattle.std.specs.Prelude.{ℤ, Option, Some, None}
use Rattle.text_numbers.specs.Numerals.{byte, number_at}

-- ---- words
unfoldable pub starts_with : List ℕ → List ℕ → Bool
starts_with [] bs = true
starts_with (w ∷ ws) [] = false
starts_with (w ∷ ws) (b ∷ bs) = cond (eqb b w) (starts_with ws bs) false

-- the bytes from place i on start with a word
abbrev pub word_at : List ℕ → List ℕ → ℕ → Bool
word_at word s i = starts_with word (drop i s)

-- ---- pairs, as (240 363): 40 and 41 are the parentheses, 32 is the space
-- a number and the byte b after it
unfoldable pub number_then : ℕ → List ℕ → ℕ → Option (ℤ × ℕ)
number_then b s i =
    elim (number_at s i) [
      | Some (z, j) ↦ cond (eqb (byte s j) b) (Some (z, j + 1)) None
      | None ↦ None
    ]

unfoldable pub pair_at : List ℕ → ℕ → Option (ℤ × ℤ × ℕ)
pair_at s i =
    cond (eqb (byte s i) 40)
    (elim (number_then 32 s (i + 1)) [
      | Some (x, j) ↦ elim (number_then 41 s j) [ Some (y, k) ↦ Some (x, y, k) | None ↦ None ]
      | None ↦ None
    ])
    None

-- a space and a pair
unfoldable pub spaced_pair_at : List ℕ → ℕ → Option (ℤ × ℤ × ℕ)
spaced_pair_at s i = cond (eqb (byte s i) 32) (pair_at s (i + 1)) None
