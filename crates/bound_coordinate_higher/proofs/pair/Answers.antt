-- The sum of row × difference for two differences: no step wraps, since rows and differences are bounded.
use mathlib.Core.Path.{refl}
use Rattle.integers.proofs.Machine.{fits! }
use Rattle.bound_coordinate.proofs.Coordinates.{bounded, computed! }
use Rattle.bound_coordinate_higher.proofs.pair.Goals as goal

pub overflow_mul-result : goal.overflow_mul-result
overflow_mul-result c = let p = c.requires in fits! (search (p.0, p.3, bounded) depth 40) tt

pub overflow_mul-result-2 : goal.overflow_mul-result-2
overflow_mul-result-2 c = let p = c.requires in fits! (search (p.0, p.4, bounded) depth 40) tt

pub overflow_add-result : goal.overflow_add-result
overflow_add-result c = let p = c.requires in fits! (search (p.0, p.3, p.4, bounded) depth 40) tt

pub returns : goal.returns
returns c = let p = c.requires in computed! (search (p.0, p.3, p.4, bounded) depth 40) tt refl
