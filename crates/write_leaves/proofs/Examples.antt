-- The leaf of document 01's answer, by computation.
use mathlib.Core.Path.{◌≡◌, refl}
use mathlib.Core.List.{List, [], ◌∷◌}
use lib.IntN.{ℤ, pos}
use Rattle.write_numbers.specs.Digits.{digits}
use Rattle.write_numbers.specs.Decimals.{decimal, spaced}
use Rattle.write_leaves.specs.Boxes.{four_numbers, box_bytes, boxes_bytes}
use Rattle.write_leaves.specs.Leaves.{leaf_line, leaf_lines}

-- the record of curve A at tolerance 44
abbrev record_a : List ℤ
record_a =
    pos 0 ∷ pos 1
    ∷ pos 0 ∷ pos 0 ∷ pos 0 ∷ pos 38
    ∷ pos 160 ∷ pos 160 ∷ pos 319 ∷ pos 363
    ∷ pos 320 ∷ pos 320 ∷ pos 319 ∷ pos 363
    ∷ pos 480 ∷ pos 480 ∷ pos 0 ∷ pos 38
    ∷ []

-- "(leaf 0 1 (0 0 0 38) (160 160 319 363) (320 320 319 363) (480 480 0 38))"
pub listing_leaf : leaf_lines record_a 1
    ≡ 40 ∷ 108 ∷ 101 ∷ 97 ∷ 102 ∷ 32 ∷ 48 ∷ 32 ∷ 49 ∷ 32 ∷ 40 ∷ 48 ∷ 32 ∷ 48 ∷ 32 ∷ 48 ∷ 32 ∷ 51 ∷ 56 ∷ 41 ∷ 32 ∷ 40 ∷ 49 ∷ 54 ∷ 48 ∷ 32 ∷ 49 ∷ 54
    ∷ 48 ∷ 32 ∷ 51 ∷ 49 ∷ 57 ∷ 32 ∷ 51 ∷ 54 ∷ 51 ∷ 41 ∷ 32 ∷ 40 ∷ 51 ∷ 50 ∷ 48 ∷ 32 ∷ 51 ∷ 50 ∷ 48 ∷ 32 ∷ 51 ∷ 49 ∷ 57 ∷ 32 ∷ 51 ∷ 54 ∷ 51 ∷ 41 ∷ 32
    ∷ 40 ∷ 52 ∷ 56 ∷ 48 ∷ 32 ∷ 52 ∷ 56 ∷ 48 ∷ 32 ∷ 48 ∷ 32 ∷ 51 ∷ 56 ∷ 41 ∷ 41 ∷ 10 ∷ []
unfolding leaf_lines leaf_line boxes_bytes box_bytes four_numbers spaced decimal digits
listing_leaf = refl
