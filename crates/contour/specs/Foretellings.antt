-- What foretelling answers, in numbers: 0 and 0 and the most leaves and nodes, or a refusal's number and spot.
use Rattle.std.specs.Prelude.{Result, Ok, Err}
use Rattle.refusals.specs.declared.Refusal.{Refusal}
use Rattle.refusals.specs.Refusals.{number_of, spot_of}
use Rattle.band_foretold.specs.declared.foretelling.Foretold.{Foretold}
use Rattle.contour.specs.declared.c_answers.ForetoldAnswer.{ForetoldAnswer}

abbrev pub foretold_answer_of : Result Foretold Refusal → ForetoldAnswer
foretold_answer_of (Ok f) = record { refusal = 0; spot = 0; leaves = f.leaves; nodes = f.nodes }
foretold_answer_of (Err r) = record { refusal = number_of r; spot = spot_of r; leaves = 0; nodes = 0 }
