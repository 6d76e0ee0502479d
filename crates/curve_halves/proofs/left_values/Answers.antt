-- One coordinate of the left half, by the degree.
use native.Mathlib.Omega.{arith}
use Rattle.curve_halves.proofs.left_values.Goals as goal

pub left_low-requires : goal.left_low-requires
left_low-requires c = let p = c.requires in (p.0, omega arith, p.2)

pub returns-in-4 : goal.returns-in-4
returns-in-4 c = rw c.in-4.is c.left_quartic.ensures

pub returns-in-5 : goal.returns-in-5
returns-in-5 c = rw c.in-5.is c.left_quintic.ensures
