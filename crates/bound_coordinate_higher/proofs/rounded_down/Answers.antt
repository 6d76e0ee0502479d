-- Division of a raised number by 625 m and a power of 2, rounded down: each step fits, and what is returned is the floor less 2^28.
use native.Mathlib.Omega.{arith}
use Rattle.bound_coordinate.proofs.Raised.{raised_unsigned, scaled_fits, raised_quotient_fits, off_fits, rounded_down_law}
use Rattle.bound_coordinate_higher.proofs.rounded_down.Goals as goal

pub overflow_cast-result : goal.overflow_cast-result
overflow_cast-result c = let a = c.args in raised_unsigned a.n a.shift a.scale c.requires c.ranges.n

pub overflow_shr-result : goal.overflow_shr-result
overflow_shr-result c = omega (arith, c.requires.shallow)

pub overflow_mul-result : goal.overflow_mul-result
overflow_mul-result c = let a = c.args in scaled_fits a.n a.shift a.scale c.requires c.ranges.n

pub overflow_cast-result-3 : goal.overflow_cast-result-3
overflow_cast-result-3 c = let a = c.args in raised_quotient_fits a.n a.shift a.scale c.requires c.ranges.n

pub overflow_sub-result : goal.overflow_sub-result
overflow_sub-result c = let a = c.args in off_fits a.n a.shift a.scale c.requires c.ranges.n

pub returns : goal.returns
returns c = let a = c.args in rounded_down_law a.n a.shift a.scale c.requires c.ranges.n
