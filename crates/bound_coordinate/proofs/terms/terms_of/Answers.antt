-- The terms of a coordinate, put together.
use native.Mathlib.Omega.{arith}
use Rattle.integers.proofs.Machine.{fits!, is! }
use Rattle.bound_row_table.proofs.Copying.{low_place}
use Rattle.bound_coordinate.proofs.Coordinates.{bounded, pieces, stored_is}
use Rattle.bound_coordinate.proofs.Chosen.{last_computed, terms_are}
use Rattle.bound_coordinate.proofs.terms.terms_of.Goals as goal

pub overflow_mul-result : goal.overflow_mul-result
overflow_mul-result c = let p = c.requires in fits! (search (p.0.values, pieces p.1, bounded) depth 40) tt

pub overflow_mul-result-2 : goal.overflow_mul-result-2
overflow_mul-result-2 c = let p = c.requires in fits! (search (p.0.values, pieces p.1, bounded) depth 40) tt

pub overflow_sub-result : goal.overflow_sub-result
overflow_sub-result c =
    let v = c.requires.0.values in
    fits! (search (v, last_computed c.args.degree v c.last_of-last.ensures, bounded) depth 40) tt

pub overflow_mul-result-3 : goal.overflow_mul-result-3
overflow_mul-result-3 c =
    let v = c.requires.0.values in
    fits! (search (v, last_computed c.args.degree v c.last_of-last.ensures, bounded) depth 40) tt

pub row_for-requires : goal.row_for-requires
row_for-requires c = omega (arith, c.first_place.ensures, low_place c.args.degree 0 c.requires.0.most (omega arith))

pub row_for-requires-2 : goal.row_for-requires-2
row_for-requires-2 c = omega (arith, c.second_place.ensures, low_place c.args.degree 1 c.requires.0.most (omega arith))

pub returns : goal.returns
returns c =
    let a = c.args in
    let v = c.requires.0.values in
    let n = pieces c.requires.1 in
    terms_are a.m a.degree a.c
    (is! (search (v, n, bounded) depth 40) tt) (is! (search (v, last_computed c.args.degree v c.last_of-last.ensures, bounded) depth 40) tt)
    (stored_is c.difference_at-difference0.ensures tt) (stored_is c.difference_at-difference1.ensures tt)
    c.first_place.ensures c.second_place.ensures
    c.row_for.ensures c.row_for-2.ensures
