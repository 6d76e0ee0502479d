-- Answers in numbers, for the C interface: 0 and 0 and what was found, or a refusal's number and spot and nothing else.
use Rattle.std.specs.Prelude.{Option, Some, None, Result, Ok, Err}
use Rattle.refusals.specs.declared.Refusal.{Refusal}
use Rattle.refusals.specs.Refusals.{number_of, spot_of}
use Rattle.band_banded.specs.declared.banding.Banded.{Banded}
use Rattle.judge.specs.declared.judging.Holder.{Holder}
use Rattle.contour.specs.declared.c_answers.Answer.{Answer}
use Rattle.contour.specs.declared.c_answers.JudgingAnswer.{JudgingAnswer}

abbrev pub band_answer_of : Result Banded Refusal → Answer
band_answer_of (Ok b) = record { refusal = 0; spot = 0; curves = b.curves; leaves = b.leaves; nodes = b.nodes }
band_answer_of (Err r) = record { refusal = number_of r; spot = spot_of r; curves = 0; leaves = 0; nodes = 0 }

abbrev pub judging_answer_of : Result (Option Holder) Refusal → JudgingAnswer
judging_answer_of (Ok (Some h)) = record { refusal = 0; spot = 0; on = 1; leaf = h.leaf; cover = h.cover }
judging_answer_of (Ok None) = record { refusal = 0; spot = 0; on = 0; leaf = 0; cover = 0 }
judging_answer_of (Err r) = record { refusal = number_of r; spot = spot_of r; on = 0; leaf = 0; cover = 0 }
