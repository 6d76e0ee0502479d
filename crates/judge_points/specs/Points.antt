-- Judging a list of points: what it answers, and what it leaves in the caller's list, which is what judging says of
-- each point.
use Rattle.std.specs.Prelude.{true, false, List, [], ◌∷◌, ◌++◌, ℕ, zero, suc, ◌+◌, ◌*◌, ◌/◌, ◌%◌, eqb, ltb}
use Rattle.std.specs.Prelude.{length, drop, ℤ, pos, Some, None, Result, Ok, Err}
use Rattle.std.proofs.Math.Option.{Option, none, some}
use Rattle.integers.specs.Entry.{entry}
use Rattle.setting.specs.Setting.{Setting}
use Rattle.refusals.specs.declared.Refusal.{Refusal}
use Rattle.refusals.specs.declared.Refusal.TheVariants.{TooFewRecords, OddPoints}
use Rattle.refusals.specs.Refusals.{number_of, spot_of}
use Rattle.judge.specs.Judging.{Judgement, list_fault}
use Rattle.judge.specs.Judgements.{judgement}

-- ---- what judging says of a point, in three numbers: 1, record and cover where it is on; 0, 0, 0 where it is off; a
-- refusal's number and spot, and 0
abbrev pub judgement_numbers : Judgement → List ℤ
judgement_numbers (Ok (Some h)) = pos 1 ∷ pos h.leaf ∷ pos h.cover ∷ []
judgement_numbers (Ok None) = pos 0 ∷ pos 0 ∷ pos 0 ∷ []
judgement_numbers (Err r) = pos (number_of r) ∷ pos (spot_of r) ∷ pos 0 ∷ []

-- ---- what judging says of point i of the list ps, from 0: its x stands at index 2i, its y at 2i + 1
abbrev pub point_judgement : Setting → (ns ps : List ℤ) → ℕ → Judgement
point_judgement σ ns ps i = judgement σ ns (entry ps (2 * i)) (entry ps (2 * i + 1))

-- the numbers of point i
abbrev pub point_numbers : Setting → (ns ps : List ℤ) → ℕ → List ℤ
point_numbers σ ns ps i = judgement_numbers (point_judgement σ ns ps i)

-- the numbers of the first n points, one point after the other
unfoldable pub numbers_to : Setting → (ns ps : List ℤ) → ℕ → List ℤ
numbers_to σ ns ps zero = []
numbers_to σ ns ps (suc n) = numbers_to σ ns ps n ++ point_numbers σ ns ps n

-- ---- the checks of the leaves ns, of the points ps and of `room`, how many numbers are lent for answers: 18, 9 and 10
-- of the leaves; 101, an odd count of numbers; 8, fewer than three numbers lent for each point
unfoldable pub points_fault : Setting → (ns ps : List ℤ) → (room : ℕ) → Option Refusal
points_fault σ ns ps room =
    elim (list_fault σ ns) [
      | some r ↦ some r
      | none ↦ elim (eqb (length ps % 2) 0) [
        | false ↦ some (OddPoints (length ps))
        | true ↦ elim (ltb room (3 * (length ps / 2))) [ true ↦ some (TooFewRecords (length ps / 2)) | false ↦ none ]
      ]
    ]

-- ---- the answer: how many points there are, or the first fault
unfoldable pub points_judged : Setting → (ns ps : List ℤ) → (room : ℕ) → Result ℕ Refusal
points_judged σ ns ps room =
    elim (points_fault σ ns ps room) [ some r ↦ Err r | none ↦ Ok (length ps / 2) ]

-- ---- the caller's list afterwards, which was `old`: the numbers of all points, then what stood behind them; a fault
-- alters nothing
unfoldable pub judged_into : Setting → (ns ps old : List ℤ) → List ℤ
judged_into σ ns ps old =
    elim (points_fault σ ns ps (length old)) [
      | some r ↦ old
      | none ↦ numbers_to σ ns ps (length ps / 2) ++ drop (3 * (length ps / 2)) old
    ]
