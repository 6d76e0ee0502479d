-- Outcomes in numbers, for the C interface, and what their numbers are of.
use Rattle.std.specs.Prelude.{◌≡◌, Option, Result, Ok, Err, List, ℕ, ℤ}
use Rattle.setting.specs.Setting.{Setting}
use Rattle.refusals.specs.declared.Refusal.{Refusal}
use Rattle.refusals.specs.Refusals.{number_of, spot_of}
use Rattle.judge.specs.declared.judging.Holder.{Holder}
use Rattle.judge.specs.Judging.{Judged}
use Rattle.contour.specs.declared.c_answers.JudgingAnswer.{JudgingAnswer}
use Rattle.contour.specs.Numbers.{judging_answer_of}
use Rattle.engine.specs.declared.Outcome.{Outcome}
use Rattle.contour.specs.declared.c_answers.OutcomeAnswer.{OutcomeAnswer}
use Rattle.engine.specs.Outcomes.{Answered}

-- the report of banding beside the numbers of a judgement
abbrev pub beside_report : (curves leaves nodes : ℕ) → JudgingAnswer → OutcomeAnswer
beside_report curves leaves nodes n = record {
  refusal = n.refusal;
  spot = n.spot;
  curves = curves;
  leaves = leaves;
  nodes = nodes;
  on = n.on;
  leaf = n.leaf;
  cover = n.cover;
}

-- a refusal's number and spot and nothing else, or the report beside the numbers of the judgement
abbrev pub outcome_answer_of : Result Outcome Refusal → OutcomeAnswer
outcome_answer_of (Err r) =
    record { refusal = number_of r; spot = spot_of r; curves = 0; leaves = 0; nodes = 0; on = 0; leaf = 0; cover = 0 }
outcome_answer_of (Ok o) =
    beside_report o.banded.curves o.banded.leaves o.banded.nodes (judging_answer_of (Ok o.holder))

-- the numbers are those of an answer that judging may give
pub record JudgedInNumbers (σ : Setting) (ns : List ℤ) (x y : ℤ) (numbers : JudgingAnswer) : Type 0 where
  pub judgement : Result (Option Holder) Refusal
  pub judged : Judged σ ns x y judgement
  pub are : numbers ≡ judging_answer_of judgement

-- the numbers are those of an outcome that banding and judging together may give
pub record AnsweredInNumbers (σ : Setting) (T : ℤ) (ns : List ℤ) (x y : ℤ) (old : List ℤ) (numbers : OutcomeAnswer)
    : Type 0 where
  pub outcome : Result Outcome Refusal
  pub answered : Answered σ T ns x y old outcome
  pub are : numbers ≡ outcome_answer_of outcome
