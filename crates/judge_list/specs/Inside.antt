-- For contracts of private functions: how the code goes through a leaf list, number by number and side by side. Places
-- are counted from the index `at` where a record, or its boxes, begin.
use Rattle.std.specs.Prelude.{Bool, true, ◌&&◌, List, ℕ, zero, suc, ◌+◌, ◌*◌, ◌/◌, ℤ}
use Rattle.std.specs.Prelude.{Option as Maybe, Some, None}
use Rattle.std.proofs.Math.Option.{Option, none, some}
use Rattle.integers.specs.Entry.{entry}
use Rattle.integers.specs.First.{first_bad}
use Rattle.setting.specs.Setting.{Setting, break_points, record_length}
use Rattle.boxes.specs.Ranges.{box_number_fine}
use Rattle.boxes.specs.Inside.{side_fine}
use Rattle.judge_list.specs.Checks.{number_fine}

abbrev pub box_fine_at : List ℤ → ℕ → ℕ → Bool
box_fine_at ns at p = box_number_fine p (entry ns (at + p)) (entry ns (at + suc p))

-- how many numbers the boxes of a record have
abbrev pub in_boxes : Setting → ℕ
in_boxes σ = 4 * break_points σ

-- among the first n numbers
abbrev pub boxes_fault_at : List ℤ → ℕ → ℕ → Option ℕ
boxes_fault_at ns at n = first_bad (box_fine_at ns at) n 0

abbrev pub fine_at : ℕ → List ℤ → ℕ → ℕ → Bool
fine_at most ns at p = number_fine most p (entry ns (at + p)) (entry ns (at + suc p))

unfoldable pub record_fault_at : Setting → List ℤ → ℕ → Option ℕ
record_fault_at σ ns at = first_bad (fine_at σ.most ns at) (record_length σ) 0

-- the first n sides, a low and its high, are all fine
abbrev pub sides_fine : List ℤ → ℕ → ℕ → Bool
sides_fine ns at zero = true
sides_fine ns at (suc n) = sides_fine ns at n && side_fine (entry ns (at + 2 * n)) (entry ns (at + suc (2 * n)))

-- every number of the record is fine: each box has two sides
abbrev pub record_fine : Setting → List ℤ → ℕ → Bool
record_fine σ ns at =
    fine_at σ.most ns at 0 && fine_at σ.most ns at 1 && sides_fine ns (at + 2) (2 * break_points σ)

-- where the record begins that has the first bad number of a list
abbrev pub record_start : Setting → Option ℕ → Maybe ℕ
record_start σ (some i) = Some (record_length σ * (i / record_length σ))
record_start σ none = None
