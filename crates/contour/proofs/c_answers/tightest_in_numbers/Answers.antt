-- The numbers of the answer for the tightest band.
use mathlib.Core.Path.{sym, ap}
use Rattle.contour.specs.Tightest.{tightest_answer_of}
use Rattle.contour.proofs.c_answers.tightest_in_numbers.Goals as goal

pub returns-in-Err : goal.returns-in-Err
returns-in-Err c = rw (c.number.ensures, c.spot.ensures) (ap tightest_answer_of (sym c.in-Err.is))
