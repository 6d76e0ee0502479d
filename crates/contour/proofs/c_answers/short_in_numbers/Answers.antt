-- The numbers of what the short form is answered with.
use mathlib.Core.Path.{sym, ◌∙◌, ap}
use lib.Ieee.{of_bits}
use Rattle.contour.specs.BoxForms.{short_of}
use Rattle.contour.proofs.c_answers.short_in_numbers.Goals as goal

pub returns-in-Ok : goal.returns-in-Ok
returns-in-Ok c = c.form_in_numbers.ensures ∙ ap short_of (sym c.in-Ok.is)

pub returns-in-Err : goal.returns-in-Err
unfolding of_bits
returns-in-Err c = rw (c.number.ensures, c.spot.ensures) (ap short_of (sym c.in-Err.is))
