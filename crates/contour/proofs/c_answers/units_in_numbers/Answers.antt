-- The numbers of a box handed out.
use mathlib.Core.Path.{sym, ap}
use lib.Ieee.{of_bits}
use Rattle.contour.specs.BoxForms.{units_of}
use Rattle.contour.proofs.c_answers.units_in_numbers.Goals as goal

pub returns-in-Ok : goal.returns-in-Ok
unfolding of_bits
returns-in-Ok c = ap units_of (sym c.in-Ok.is)

pub returns-in-Err : goal.returns-in-Err
unfolding of_bits
returns-in-Err c = rw (c.number.ensures, c.spot.ensures) (ap units_of (sym c.in-Err.is))
