-- For contracts inside the engine alone, no part of a public promise: the faults of an outline in which a curve is
-- exchanged, by those of the new curve.
use Rattle.std.specs.Prelude.{Bool, true, false, ◌&&◌, ◌||◌, List, ℕ, ◌+◌, ◌-◌, leb, ltb, length, ℤ}
use Rattle.std.proofs.Math.Option.{Option, none, some}
use Rattle.setting.specs.Setting.{degree_pieces}
use Rattle.integers.specs.Entry.{entry}
use Rattle.integers.specs.Equal.{equal}
use Rattle.refusals.specs.declared.Refusal.{Refusal}
use Rattle.refusals.specs.declared.Refusal.TheVariants.{Degree, Coordinate, Gap, DegreePieces}
use Rattle.outline.specs.Curves.{degree_fine, coordinates, degree_at, next_at}
use Rattle.outline.specs.Faults.{first_beyond}

-- the two numbers from index i of one list on are those from index j of another on
abbrev pub same_point : List ℤ → ℕ → List ℤ → ℕ → Bool
same_point a i b j = equal (entry a i) (entry b j) && equal (entry a (i + 1)) (entry b (j + 1))

-- 2, 20 and 4 of the curve that `new` gives, as they are said of it at index `at`
unfoldable pub own_fault : (m : ℕ) → (new : List ℤ) → (at : ℕ) → Option Refusal
own_fault m new at =
    elim (degree_fine (entry new 0)) [
      | false ↦ some (Degree at)
      | true ↦
          elim (degree_pieces (degree_at new 0) m) [
            | false ↦ some (DegreePieces at)
            | true ↦
                elim (first_beyond new (coordinates (degree_at new 0)) 1) [
                  | some i ↦ some (Coordinate (at + i))
                  | none ↦ none
                ]
          ]
    ]

-- 17 of that curve, and of the curve after it, which stood at index `next`
abbrev pub meets_old : List ℤ → (at : ℕ) → (new : List ℤ) → Bool
meets_old ns at new = ltb at 2 || same_point ns (at - 2) new 1

abbrev pub meets_next : List ℤ → (next : ℕ) → (new : List ℤ) → Bool
meets_next ns next new = leb (length ns) next || same_point new (next_at new 0 - 2) ns (next + 1)

-- the first fault
unfoldable pub changed_fault : (m : ℕ) → List ℤ → (at next : ℕ) → (new : List ℤ) → Option Refusal
changed_fault m ns at next new =
    elim (own_fault m new at) [
      | some r ↦ some r
      | none ↦
          elim (meets_old ns at new) [
            | false ↦ some (Gap at)
            | true ↦ elim (meets_next ns next new) [ true ↦ none | false ↦ some (Gap (at + next_at new 0)) ]
          ]
    ]
