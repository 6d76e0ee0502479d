-- The last control value of a coordinate of degree 4 or 5, by the degree.
use mathlib.Core.Path.{◌≡◌}
use native.Mathlib.Omega.{arith}
use borrow.Author.Rules.{rules}
use Rattle.bound_coordinate_higher.proofs.last_of.Goals as goal

pub returns-then-degree-lt5 : goal.returns-then-degree-lt5
returns-then-degree-lt5 c = let e : c.args.degree ≡ 4 = omega arith in rw e (search rules)

pub returns-else-degree-lt5 : goal.returns-else-degree-lt5
returns-else-degree-lt5 c = let e : c.args.degree ≡ 5 = omega arith in rw e (search rules)
