-- The terms of a coordinate of degree 4 or 5, put together.
use Rattle.integers.proofs.Machine.{fits!, is! }
use Rattle.bound_coordinate.proofs.Coordinates.{bounded, pieces, stored_is}
use Rattle.bound_coordinate.proofs.Chosen.{last_computed, start_fits, start_is, higher_terms_are}
use Rattle.bound_coordinate_higher.proofs.higher_of.Goals as goal

pub overflow_mul-result : goal.overflow_mul-result
overflow_mul-result c = let p = c.requires in fits! (search (p.0.values, pieces p.1, bounded) depth 40) tt

pub overflow_mul-result-2 : goal.overflow_mul-result-2
overflow_mul-result-2 c = let p = c.requires in fits! (search (p.0.values, pieces p.1, bounded) depth 40) tt

-- ---- what the start is raised by
pub overflow_mul-result-3 : goal.overflow_mul-result-3
overflow_mul-result-3 c = let p = c.requires in fits! (search (pieces p.1, bounded) depth 40) tt

pub overflow_mul-result-4 : goal.overflow_mul-result-4
overflow_mul-result-4 c = let p = c.requires in fits! (search (pieces p.1, bounded) depth 40) tt

pub overflow_add-result : goal.overflow_add-result
overflow_add-result c = let p = c.requires in start_fits p.1 p.2 p.0.values

-- ---- the rise
pub overflow_sub-result : goal.overflow_sub-result
overflow_sub-result c =
    let v = c.requires.0.values in
    fits! (search (v, last_computed c.args.degree v c.last_of-last.ensures, bounded) depth 40) tt

pub overflow_mul-result-5 : goal.overflow_mul-result-5
overflow_mul-result-5 c =
    let v = c.requires.0.values in
    fits! (search (v, last_computed c.args.degree v c.last_of-last.ensures, bounded) depth 40) tt

pub returns : goal.returns
returns c =
    let a = c.args in
    let v = c.requires.0.values in
    higher_terms_are a.m a.degree a.shift a.c
    (start_is c.requires.1 c.requires.2 v) (is! (search (v, last_computed a.degree v c.last_of-last.ensures, bounded) depth 40) tt)
    (stored_is c.difference_at-difference0.ensures tt) (stored_is c.difference_at-difference1.ensures tt)
    (stored_is c.difference_at-difference2.ensures tt) (stored_is c.difference_at-difference3.ensures tt) c.place_of-place.ensures.0
    c.row_for.ensures c.row_for-2.ensures c.row_for-3.ensures c.row_for-4.ensures
