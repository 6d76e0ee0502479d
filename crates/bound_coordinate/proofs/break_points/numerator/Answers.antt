-- The number that is divided at a break point: no step wraps, since rows, differences and the chord are bounded.
use Rattle.integers.proofs.Machine.{fits! }
use Rattle.bound_coordinate.proofs.Coordinates.{bounded, pieces}
use Rattle.bound_coordinate.proofs.Numerators.{most_of, total_fits, total_is}
use Rattle.bound_coordinate.proofs.break_points.numerator.Goals as goal

pub overflow_mul-chord : goal.overflow_mul-chord
overflow_mul-chord c = let h = (most_of c.requires.0).chord in fits! (search (h.step, pieces h.point, bounded) depth 40) tt

pub overflow_add-chord : goal.overflow_add-chord
overflow_add-chord c = let h = (most_of c.requires.0).chord in
    fits! (search (h.start, h.step, pieces h.point, bounded) depth 40) tt

pub overflow_mul-result : goal.overflow_mul-result
overflow_mul-result c =
    let h = most_of c.requires.0 in
    fits! (search (h.each c.args.p c.requires.1, h.difference0, bounded) depth 40) tt

pub overflow_mul-result-2 : goal.overflow_mul-result-2
overflow_mul-result-2 c =
    let h = most_of c.requires.0 in
    fits! (search (h.each c.args.q c.requires.2, h.difference1, bounded) depth 40) tt

pub overflow_add-result : goal.overflow_add-result
overflow_add-result c =
    let h = most_of c.requires.0 in
    fits! (search (h.each c.args.p c.requires.1, h.each c.args.q c.requires.2, h.difference0, h.difference1, bounded) depth 40) tt

pub overflow_add-result-2 : goal.overflow_add-result-2
overflow_add-result-2 c = total_fits (most_of c.requires.0) c.args.p c.args.q c.requires.1 c.requires.2

pub returns : goal.returns
returns c = total_is (most_of c.requires.0) c.args.p c.args.q c.requires.1 c.requires.2
