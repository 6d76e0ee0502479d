-- What judging a list of points answers, in numbers: 0 and 0 and the count of points, or a refusal's number and spot.
use Rattle.std.specs.Prelude.{ℕ, Result, Ok, Err}
use Rattle.refusals.specs.declared.Refusal.{Refusal}
use Rattle.refusals.specs.Refusals.{number_of, spot_of}
use Rattle.contour.specs.declared.c_answers.PointsAnswer.{PointsAnswer}

abbrev pub points_answer_of : Result ℕ Refusal → PointsAnswer
points_answer_of (Ok count) = record { refusal = 0; spot = 0; points = count }
points_answer_of (Err r) = record { refusal = number_of r; spot = spot_of r; points = 0 }
