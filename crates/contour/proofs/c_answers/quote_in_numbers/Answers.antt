-- The numbers of a quote.
use mathlib.Core.Path.{sym, ap}
use Rattle.contour.specs.Quotes.{quote_answer_of}
use Rattle.contour.proofs.c_answers.quote_in_numbers.Goals as goal

pub returns-in-Ok : goal.returns-in-Ok
returns-in-Ok c = ap quote_answer_of (sym c.in-Ok.is)

pub returns-in-Err : goal.returns-in-Err
returns-in-Err c = rw (c.number.ensures, c.spot.ensures) (ap quote_answer_of (sym c.in-Err.is))
