-- One coordinate of the left half of degree 1 to 3, by the degree.
use mathlib.Core.Path.{◌≡◌}
use native.Mathlib.Omega.{arith}
use Rattle.curve_halves.proofs.left_low.Goals as goal

pub returns-in-1 : goal.returns-in-1
returns-in-1 c = rw c.in-1.is c.left_line.ensures

pub returns-in-2 : goal.returns-in-2
returns-in-2 c = rw c.in-2.is c.left_quadratic.ensures

pub returns-in_default : goal.returns-in_default
returns-in_default c = let e : c.args.degree ≡ 3 = omega arith in rw e c.left_cubic.ensures
