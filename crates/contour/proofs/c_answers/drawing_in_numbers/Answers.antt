-- The numbers of a drawing's answer.
use mathlib.Core.Path.{sym, ap}
use Rattle.contour.specs.Drawings.{drawing_of}
use Rattle.contour.proofs.c_answers.drawing_in_numbers.Goals as goal

pub returns-in-Ok : goal.returns-in-Ok
returns-in-Ok c = ap drawing_of (sym c.in-Ok.is)

pub returns-in-Err : goal.returns-in-Err
returns-in-Err c = rw (c.number.ensures, c.spot.ensures) (ap drawing_of (sym c.in-Err.is))
