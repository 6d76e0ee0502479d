-- The numbers of a judgement.
use mathlib.Core.Path.{sym, ap}
use Rattle.contour.specs.Numbers.{judging_answer_of}
use Rattle.contour.proofs.c_answers.judgement_in_numbers.Goals as goal

pub returns-in-Err : goal.returns-in-Err
returns-in-Err c = rw (c.number.ensures, c.spot.ensures) (ap judging_answer_of (sym c.in-Err.is))
