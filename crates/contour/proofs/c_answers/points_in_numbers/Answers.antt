-- The numbers of the answer for a list of points.
use mathlib.Core.Path.{sym, ap}
use Rattle.contour.specs.Points.{points_answer_of}
use Rattle.contour.proofs.c_answers.points_in_numbers.Goals as goal

pub returns-in-Ok : goal.returns-in-Ok
returns-in-Ok c = ap points_answer_of (sym c.in-Ok.is)

pub returns-in-Err : goal.returns-in-Err
returns-in-Err c = rw (c.number.ensures, c.spot.ensures) (ap points_answer_of (sym c.in-Err.is))
