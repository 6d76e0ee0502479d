-- The numbers of what is foretold.
use mathlib.Core.Path.{sym, ap}
use Rattle.contour.specs.Foretellings.{foretold_answer_of}
use Rattle.contour.proofs.c_answers.foretold_in_numbers.Goals as goal

pub returns-in-Ok : goal.returns-in-Ok
returns-in-Ok c = ap foretold_answer_of (sym c.in-Ok.is)

pub returns-in-Err : goal.returns-in-Err
returns-in-Err c = rw (c.number.ensures, c.spot.ensures) (ap foretold_answer_of (sym c.in-Err.is))
