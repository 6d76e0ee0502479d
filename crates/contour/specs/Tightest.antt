-- The answer for the tightest band, in numbers: 0 and 0 and the least tolerance that fits, which is 0 where none does,
-- or a refusal's number and spot.
use Rattle.std.specs.Prelude.{ℕ, Option, Some, None, Result, Ok, Err}
use Rattle.refusals.specs.declared.Refusal.{Refusal}
use Rattle.refusals.specs.Refusals.{number_of, spot_of}
use Rattle.contour.specs.declared.c_answers.TightestAnswer.{TightestAnswer}

abbrev pub tightest_answer_of : Result (Option ℕ) Refusal → TightestAnswer
tightest_answer_of (Ok (Some T)) = record { refusal = 0; spot = 0; tolerance = T }
tightest_answer_of (Ok None) = record { refusal = 0; spot = 0; tolerance = 0 }
tightest_answer_of (Err r) = record { refusal = number_of r; spot = spot_of r; tolerance = 0 }
