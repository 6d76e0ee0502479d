-- The fraction rounded up: raised by its denominator less one, then divided down by a shift and by 625.
use native.Mathlib.Omega.{arith}
use Rattle.bound_tolerance.proofs.SpreadLaws.{raised_under, lowered_fits}
use Rattle.bound_tolerance_higher.proofs.Units.{units_computed}
use Rattle.bound_tolerance_higher.proofs.whole_units.Goals as goal

pub overflow_add-result : goal.overflow_add-result
overflow_add-result c = omega (arith, raised_under 625 tt c.requires.2 c.args.sum (omega arith) c.requires.1)

pub overflow_cast-result-2 : goal.overflow_cast-result-2
overflow_cast-result-2 c = lowered_fits 625 tt c.requires.2 c.args.sum (omega arith) c.requires.1

pub returns : goal.returns
returns c = units_computed c.args.sum c.requires.0 c.requires.1 c.requires.2
