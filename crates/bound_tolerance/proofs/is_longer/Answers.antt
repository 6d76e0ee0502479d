-- The diagonal of a box against a square.
use mathlib.Core.Path.{refl, sym}
use Rattle.integers.proofs.Machine.{fits!, flag! }
use Rattle.bound_coordinate.proofs.Coordinates.{bounded}
use Rattle.bound_tolerance.proofs.is_longer.Goals as goal

pub overflow_mul-result : goal.overflow_mul-result
overflow_mul-result c = fits! (search (c.requires.0, bounded) depth 40) tt

pub overflow_mul-result-2 : goal.overflow_mul-result-2
overflow_mul-result-2 c = fits! (search (c.requires.1, bounded) depth 40) tt

pub overflow_add-result : goal.overflow_add-result
overflow_add-result c = fits! (search (c.requires.0, c.requires.1, bounded) depth 40) tt

pub returns : goal.returns
returns c = sym (flag! refl (search (c.requires.0, c.requires.1, c.ranges.square, bounded) depth 40) tt)
