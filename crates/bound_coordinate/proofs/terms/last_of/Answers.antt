-- The last control value, by the degree.
use mathlib.Core.Path.{◌≡◌}
use native.Mathlib.Omega.{arith}
use borrow.Author.Rules.{rules}
use Rattle.bound_coordinate.proofs.terms.last_of.Goals as goal

pub returns-then-degree-lt2 : goal.returns-then-degree-lt2
returns-then-degree-lt2 c = let e : c.args.degree ≡ 1 = omega arith in rw e (search rules)

pub returns-then-degree-lt3 : goal.returns-then-degree-lt3
returns-then-degree-lt3 c = let e : c.args.degree ≡ 2 = omega arith in rw e (search rules)

pub returns : goal.returns
returns c = let e : c.args.degree ≡ 3 = omega arith in rw e (search rules)
