-- The checks of one curve of an outline, in document 01's order ("Place of each check"), with 17 and 20 of document 02,
-- requests 03 and 08.
use Rattle.std.specs.Prelude.{Bool, true, false, ◌&&◌, ◌||◌, List, ℕ, ◌+◌, ◌-◌, ltb, length, ℤ, pos, neg_ℤ}
use Rattle.std.proofs.Math.Option.{Option, none, some}
use Rattle.setting.specs.Setting.{degree_pieces}
use Rattle.integers.specs.Entry.{entry}
use Rattle.integers.specs.Between.{between}
use Rattle.integers.specs.Equal.{equal}
use Rattle.integers.specs.First.{first_bad}
use Rattle.refusals.specs.declared.Refusal.{Refusal}
use Rattle.refusals.specs.declared.Refusal.TheVariants.{Degree, CutShort, Coordinate, Gap, DegreePieces}
use Rattle.outline.specs.Curves.{degree_fine, coordinates, degree_at, next_at}

-- ---- 4: the first of n numbers from index i on that is no coordinate, −1,048,576 to 1,048,576
abbrev pub coordinate_fine : ℤ → Bool
coordinate_fine z = between (neg_ℤ (pos 1048576)) (pos 1048576) z

abbrev pub first_beyond : List ℤ → ℕ → ℕ → Option ℕ
first_beyond ns n i = first_bad (λ k. coordinate_fine (entry ns k)) n i

-- ---- 17: the curve at `at` begins where the curve before it ends. That point is the two numbers before `at`; the
-- first curve, at index 0, has none before it.
abbrev pub meets_before : List ℤ → ℕ → Bool
meets_before ns at =
    ltb at 2 || (equal (entry ns (at - 2)) (entry ns (at + 1)) && equal (entry ns (at - 1)) (entry ns (at + 2)))

-- the faults of the curve whose degree stands at `at`, for m pieces: 2, 20, 3, 4 and 17, in this order
unfoldable pub fault_at : ℕ → List ℤ → ℕ → Option Refusal
fault_at m ns at =
    elim (degree_fine (entry ns at)) [
      | false ↦ some (Degree at)
      | true ↦
          elim (degree_pieces (degree_at ns at) m) [
            | false ↦ some (DegreePieces at)
            | true ↦
                elim (ltb (length ns) (next_at ns at)) [
                  | true ↦ some (CutShort (length ns))
                  | false ↦
                      elim (first_beyond ns (coordinates (degree_at ns at)) (at + 1)) [
                        | some i ↦ some (Coordinate i)
                        | none ↦ elim (meets_before ns at) [ true ↦ none | false ↦ some (Gap at) ]
                      ]
                ]
          ]
    ]
