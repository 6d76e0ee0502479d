-- The high at a break point: the number that is divided, raised by one less than the divisor, rounded down.
use native.Mathlib.Omega.{arith}
use Rattle.integers.proofs.Machine.{fits! }
use Rattle.bound_coordinate.proofs.Coordinates.{bounded, divisors}
use Rattle.bound_coordinate.proofs.Numerators.{less_fits, high_fits, high_asked, high_by_law}
use Rattle.bound_coordinate.proofs.break_points.high_at.Goals as goal

pub numerator-n-requires : goal.numerator-n-requires
numerator-n-requires c =
    (record { q = c.args.divisor; s = c.args.shift; c = c.args.scale; at = c.requires }, omega arith, omega arith)

pub overflow_sub-more : goal.overflow_sub-more
overflow_sub-more c = let h = c.requires.computable in less_fits h.few h.shallow

pub overflow_mul-more : goal.overflow_mul-more
overflow_mul-more c = fits! (search (divisors c.requires.computable.few, bounded) depth 40) tt

pub overflow_add-n : goal.overflow_add-n
overflow_add-n c = high_fits c.requires c.numerator-n.ensures

pub rounded_down-requires : goal.rounded_down-requires
rounded_down-requires c = high_asked c.requires c.numerator-n.ensures

pub returns : goal.returns
returns c = high_by_law c.requires c.numerator-n.ensures c.rounded_down.ensures
