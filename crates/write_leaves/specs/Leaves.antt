-- Leaf records as lines (document 01, "Text program"): (leaf curve node box box box box). `ns` is a list of records, i
-- the index of a number in it.
use Rattle.std.specs.Prelude.{List, [], ◌∷◌, ◌++◌, ℕ, zero, suc, ◌+◌, ◌*◌, ℤ}
use Rattle.integers.specs.Entry.{entry}
use Rattle.write_numbers.specs.Decimals.{spaced}
use Rattle.write_leaves.specs.Boxes.{boxes_bytes}

-- "(leaf"
abbrev pub leaf_word : List ℕ
leaf_word = 40 ∷ 108 ∷ 101 ∷ 97 ∷ 102 ∷ []

-- ")" and the end of the line
abbrev pub line_end : List ℕ
line_end = 41 ∷ 10 ∷ []

-- the record whose curve stands at index i: its curve and its node, then its boxes
abbrev pub leaf_head : List ℤ → ℕ → List ℕ
leaf_head ns i = leaf_word ++ spaced (entry ns i) ++ spaced (entry ns (i + 1))

unfoldable pub leaf_line : List ℤ → ℕ → List ℕ
leaf_line ns i = leaf_head ns i ++ boxes_bytes ns (i + 2) 4 ++ line_end

-- the first n records
unfoldable pub leaf_lines : List ℤ → ℕ → List ℕ
leaf_lines ns zero = []
leaf_lines ns (suc n) = leaf_lines ns n ++ leaf_line ns (18 * n)
