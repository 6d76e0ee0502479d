-- What drawing answers, in numbers: 0 and 0 and the count of vertices, or a refusal's number and spot and no vertex.
use Rattle.std.specs.Prelude.{ℕ, Result, Ok, Err}
use Rattle.refusals.specs.declared.Refusal.{Refusal}
use Rattle.refusals.specs.Refusals.{number_of, spot_of}
use Rattle.contour.specs.declared.c_answers.Drawing.{Drawing}

abbrev pub drawing_of : Result ℕ Refusal → Drawing
drawing_of (Ok count) = record { refusal = 0; spot = 0; vertices = count }
drawing_of (Err r) = record { refusal = number_of r; spot = spot_of r; vertices = 0 }
