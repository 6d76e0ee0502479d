-- The numbers of a short form.
use mathlib.Core.Path.{sym, ap}
use lib.Ieee.{of_bits}
use Rattle.contour.specs.BoxForms.{form_of}
use Rattle.contour.proofs.c_answers.form_in_numbers.Goals as goal

pub returns-in-Point : goal.returns-in-Point
unfolding of_bits
returns-in-Point c = ap form_of (sym c.in-Point.is)

pub returns-in-Middle : goal.returns-in-Middle
returns-in-Middle c = ap form_of (sym c.in-Middle.is)
