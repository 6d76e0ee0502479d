-- The low at a break point: the number that is divided, rounded down.
use native.Mathlib.Omega.{arith}
use Rattle.bound_coordinate.proofs.Numerators.{low_asked, low_by_law}
use Rattle.bound_coordinate.proofs.break_points.low_at.Goals as goal

pub numerator-n-requires : goal.numerator-n-requires
numerator-n-requires c =
    (record { q = c.args.divisor; s = c.args.shift; c = c.args.scale; at = c.requires }, omega arith, omega arith)

pub rounded_down-requires : goal.rounded_down-requires
rounded_down-requires c = low_asked c.requires c.numerator-n.ensures

pub returns : goal.returns
returns c = low_by_law c.requires c.numerator-n.ensures c.rounded_down.ensures
