-- The fraction rounded up: raised by its denominator less one, then divided down by a shift and by 3750.
use native.Mathlib.Omega.{arith}
use Rattle.bound_tolerance.proofs.SpreadLaws.{raised_under, lowered_fits, spread_computed}
use Rattle.bound_tolerance.proofs.spread.rounded_up.Goals as goal

pub overflow_add-result : goal.overflow_add-result
overflow_add-result c = omega (arith, raised_under 3750 tt c.requires.2 c.args.sum c.requires.0 c.requires.1)

pub overflow_cast-result-2 : goal.overflow_cast-result-2
overflow_cast-result-2 c = lowered_fits 3750 tt c.requires.2 c.args.sum c.requires.0 c.requires.1

pub returns : goal.returns
returns c = spread_computed c.args.sum c.requires.0 c.requires.1 c.requires.2
