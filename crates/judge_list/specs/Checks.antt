-- Checks 9 and 10 of a leaf list (document 01, "Place of each check").
use Rattle.std.specs.Prelude.{Bool, not, ◌&&◌, List, ℕ, zero, suc, ◌%◌, eqb, length, ℤ, pos}
use Rattle.std.proofs.Math.Option.{Option}
use Rattle.std.specs.Int.Signed.{le_z, lt_z}
use Rattle.integers.specs.Entry.{entry}
use Rattle.integers.specs.Between.{between}
use Rattle.integers.specs.First.{first_bad}
use Rattle.setting.specs.Setting.{Setting, record_length, greatest_node}
use Rattle.boxes.specs.Ranges.{box_number_fine}

-- ---- 9: the list is not empty, and its length is a multiple of a record's
abbrev pub length_fine : Setting → ℕ → Bool
length_fine σ n = not (eqb n 0) && eqb (n % record_length σ) 0

-- ---- 10: the number z at place p of a record, in front of `next`: the curve is below `most`, the node is 1 to 511,
-- and the rest are boxes
abbrev pub number_fine : ℕ → ℕ → ℤ → ℤ → Bool
number_fine most zero z next = le_z (pos 0) z && lt_z z (pos most)
number_fine most (suc zero) z next = between (pos 1) (pos greatest_node) z
number_fine most (suc (suc p)) z next = box_number_fine p z next

-- the index of the first bad number
unfoldable pub number_fault : Setting → List ℤ → Option ℕ
number_fault σ ns =
    first_bad (λ i. number_fine σ.most (i % record_length σ) (entry ns i) (entry ns (suc i))) (length ns) 0
