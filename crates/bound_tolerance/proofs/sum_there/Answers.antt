-- The sum of a coordinate at the break point of a corner.
use mathlib.Core.Bool.{true, false}
use native.Mathlib.Omega.{arith}
use Rattle.bound_tolerance.proofs.SpreadLaws.{less_under, product_under, point_less}
use Rattle.bound_tolerance.proofs.sum_there.Goals as goal

pub overflow_mul-result : goal.overflow_mul-result
overflow_mul-result c = let p = c.requires in omega (arith, product_under (less_under p.0 p.1) c.size.ensures.1)

pub overflow_sub-result : goal.overflow_sub-result
overflow_sub-result c =
    omega (arith, point_less c.requires.0 c.requires.1 c.args.c c.requires.3 true c.difference_at.ensures c.size.ensures.0)

pub overflow_mul-result-else-last : goal.overflow_mul-result-else-last
overflow_mul-result-else-last c = let p = c.requires in omega (arith, product_under (less_under p.0 p.1) c.size-else-last.ensures.1)

pub overflow_sub-result-else-last : goal.overflow_sub-result-else-last
overflow_sub-result-else-last c =
    omega (arith, point_less c.requires.0 c.requires.1 c.args.c c.requires.3 false c.difference_at-else-last.ensures c.size-else-last.ensures.0)

pub returns-then-last : goal.returns-then-last
returns-then-last c =
    rw c.if-last.true (omega (
      arith,
      point_less c.requires.0 c.requires.1 c.args.c c.requires.3 true c.difference_at.ensures c.size.ensures.0,
    ))

pub returns-else-last : goal.returns-else-last
returns-else-last c =
    rw c.if-last.false (omega (
      arith,
      point_less c.requires.0 c.requires.1 c.args.c c.requires.3 false c.difference_at-else-last.ensures c.size-else-last.ensures.0,
    ))
