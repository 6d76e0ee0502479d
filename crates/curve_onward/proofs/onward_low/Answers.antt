-- One coordinate of degree 1 to 3 carried on, by the degree.
use mathlib.Core.Path.{◌≡◌}
use native.Mathlib.Omega.{arith}
use lib.Dec.{lit≤}
use Rattle.curve_halves.proofs.Sizes.{each_wider}
use Rattle.curve_onward.proofs.onward_low.Goals as goal

pub onward_cubic-requires : goal.onward_cubic-requires
onward_cubic-requires c = let p = c.requires in (p.2, each_wider (lit≤ tt) p.3)

pub returns-in-1 : goal.returns-in-1
returns-in-1 c = rw c.in-1.is c.onward_line.ensures

pub returns-in-2 : goal.returns-in-2
returns-in-2 c = rw c.in-2.is c.onward_quadratic.ensures

pub returns-in_default : goal.returns-in_default
returns-in_default c = let e : c.args.degree ≡ 3 = omega arith in rw e c.onward_cubic.ensures
