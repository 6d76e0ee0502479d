-- The boxes of leaf records as bytes (document 01, "Text program"): a box is (x low, x high, y low, y high). `ns` is a
-- list of records, i the index of a number in it.
use Rattle.std.specs.Prelude.{List, [], ◌∷◌, ◌++◌, ℕ, zero, suc, ◌+◌, ◌*◌, ℤ}
use Rattle.integers.specs.Entry.{entry}
use Rattle.write_numbers.specs.Decimals.{decimal, spaced}

-- four numbers with spaces between them
unfoldable pub four_numbers : List ℤ → ℕ → List ℕ
four_numbers ns i =
    decimal (entry ns i) ++ spaced (entry ns (i + 1)) ++ spaced (entry ns (i + 2)) ++ spaced (entry ns (i + 3))

-- " (" and ")"
abbrev pub opening : List ℕ
opening = 32 ∷ 40 ∷ []

abbrev pub ending : List ℕ
ending = 41 ∷ []

unfoldable pub box_bytes : List ℤ → ℕ → List ℕ
box_bytes ns i = opening ++ four_numbers ns i ++ ending

-- the boxes at the first n break points
unfoldable pub boxes_bytes : List ℤ → ℕ → ℕ → List ℕ
boxes_bytes ns i zero = []
boxes_bytes ns i (suc n) = boxes_bytes ns i n ++ box_bytes ns (i + 4 * n)
