-- Where the rows of a degree begin, by the degree.
use mathlib.Core.Path.{◌≡◌}
use native.Mathlib.Omega.{arith}
use lib.Dec.{lit≤}
use Rattle.bound_coordinate_higher.proofs.place_of.Goals as goal

pub returns-then-degree-lt5 : goal.returns-then-degree-lt5
returns-then-degree-lt5 c = let e : c.args.degree ≡ 4 = omega arith in (rw e, lit≤ tt)

pub returns-else-degree-lt5 : goal.returns-else-degree-lt5
returns-else-degree-lt5 c = let e : c.args.degree ≡ 5 = omega arith in (rw e, lit≤ tt)
