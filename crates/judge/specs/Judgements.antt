-- The answer of judging as a function: the covers of all records are tried in turn. `is_judged` and `judged_is` of
-- crates/judge/proofs/Judgements.antt say that it is the one answer that `Judged` allows.
use Rattle.std.specs.Prelude.{Bool, not, List, ℕ, suc, ◌*◌, ◌/◌, ◌%◌, length, ℤ, Err}
use Rattle.std.proofs.Math.Option.{Option, none, some}
use Rattle.integers.specs.First.{first_bad}
use Rattle.setting.specs.Setting.{Setting, covers, record_length}
use Rattle.boxes.specs.Records.{box_index, box_at_index}
use Rattle.judge_cover.specs.Deciding.{held}
use Rattle.judge.specs.Judging.{Judgement, on, off, judging_fault}

-- whether cover i of record k holds the point: `CoverHolds` of crates/judge_cover, decided, as `held_exactly` there
-- says
abbrev pub cover_held : Setting → List ℤ → (x y : ℤ) → (k i : ℕ) → Bool
cover_held σ ns x y k i = held (box_at_index ns (box_index σ k i)) (box_at_index ns (box_index σ k (suc i))) x y

-- of all covers number j is cover j % covers of record j / covers; the first that holds the point
unfoldable pub first_held : Setting → List ℤ → (x y : ℤ) → Option ℕ
first_held σ ns x y =
    first_bad (λ j. not (cover_held σ ns x y (j / covers σ) (j % covers σ)))
    (covers σ * (length ns / record_length σ)) 0

abbrev pub named : Setting → Option ℕ → Judgement
named σ (some j) = on (j / covers σ) (j % covers σ)
named σ none = off

unfoldable pub judgement : Setting → List ℤ → (x y : ℤ) → Judgement
judgement σ ns x y = elim (judging_fault σ ns x y) [ some r ↦ Err r | none ↦ named σ (first_held σ ns x y) ]
