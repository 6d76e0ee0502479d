-- The second difference of a coordinate at a place.
use Rattle.integers.proofs.Machine.{fits! }
use Rattle.bound_coordinate.proofs.Coordinates.{bounded, computed!, difference_is}
use Rattle.bound_coordinate.proofs.terms.difference_at.Goals as goal

pub returns : goal.returns
returns c = computed! (search bounded depth 40) tt (difference_is c.args.c c.args.k)

pub overflow_mul-result : goal.overflow_mul-result
overflow_mul-result c = fits! (search bounded depth 40) tt

pub overflow_sub-result : goal.overflow_sub-result
overflow_sub-result c = fits! (search bounded depth 40) tt

pub overflow_add-result-3 : goal.overflow_add-result-3
overflow_add-result-3 c = fits! (search bounded depth 40) tt
