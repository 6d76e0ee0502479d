-- The number that is divided at a break point: no step wraps, since rows, differences and the chord are bounded.
use native.Mathlib.Omega.{arith}
use Rattle.integers.proofs.Machine.{fits! }
use Rattle.bound_coordinate.proofs.Coordinates.{bounded, pieces, small! }
use Rattle.bound_coordinate.proofs.Numerators.{higher_most_of, three_fit, four_fit, three_total_fits, four_total_fits}
use Rattle.bound_coordinate.proofs.Numerators.{three_total_is, four_total_is}
use Rattle.bound_coordinate_higher.proofs.numerator.Goals as goal

pub overflow_mul-chord : goal.overflow_mul-chord
overflow_mul-chord c = let h = higher_most_of c.requires.0 in fits! (search (h.step, pieces h.point, bounded) depth 40) tt

pub overflow_add-chord : goal.overflow_add-chord
overflow_add-chord c = let h = higher_most_of c.requires.0 in
    fits! (search (h.start, h.step, pieces h.point, bounded) depth 40) tt

pub pair-a-requires : goal.pair-a-requires
pair-a-requires c =
    let a = c.requires.0.computable in
    let h = higher_most_of c.requires.0 in (
      h.each,
      omega (arith, a.whole, a.within.row0, c.requires.1),
      omega (arith, a.whole, a.within.row1, c.requires.1),
      small! (search (h.difference0, bounded) depth 40) tt,
      small! (search (h.difference1, bounded) depth 40) tt,
    )

-- ---- the third product
pub overflow_add-b : goal.overflow_add-b
overflow_add-b c = omega (arith, c.requires.0.computable.within.row2, c.requires.1)

pub offset_bounds-rows-t : goal.offset_bounds-rows-t
offset_bounds-rows-t c = omega (arith, c.requires.0.computable.within.row2, c.requires.1)

pub bounds-rows-t : goal.bounds-rows-t
bounds-rows-t c = omega (arith, c.requires.0.computable.whole, c.requires.0.computable.within.row2, c.requires.1)

pub overflow_mul-b : goal.overflow_mul-b
overflow_mul-b c =
    let h = higher_most_of c.requires.0 in
    fits! (search (h.each, h.difference2, bounded) depth 40) tt

-- ---- of degree 4
pub overflow_add-result : goal.overflow_add-result
overflow_add-result c =
    three_fit (higher_most_of c.requires.0) c.args.at c.pair-a.ensures

pub overflow_add-result-then-t-lt5 : goal.overflow_add-result-then-t-lt5
overflow_add-result-then-t-lt5 c =
    three_total_fits (higher_most_of c.requires.0) c.args.at c.pair-a.ensures

pub returns-then-t-lt5 : goal.returns-then-t-lt5
returns-then-t-lt5 c =
    three_total_is (higher_most_of c.requires.0) c.args.at c.pair-a.ensures (omega (arith, c.if-t-lt5.true))

-- ---- of degree 5: the fourth product
pub overflow_add-result-2 : goal.overflow_add-result-2
overflow_add-result-2 c =
    three_fit (higher_most_of c.requires.0) c.args.at c.pair-a.ensures

pub overflow_add-result-3 : goal.overflow_add-result-3
overflow_add-result-3 c =
    omega (arith, c.requires.0.computable.within.row3, c.requires.1)

pub offset_bounds-rows-t-2 : goal.offset_bounds-rows-t-2
offset_bounds-rows-t-2 c =
    omega (arith, c.requires.0.computable.within.row3, c.requires.1)

pub bounds-rows-t-2 : goal.bounds-rows-t-2
bounds-rows-t-2 c =
    omega (arith, c.requires.0.computable.whole, c.requires.0.computable.within.row3, c.requires.1)

pub overflow_mul-result : goal.overflow_mul-result
overflow_mul-result c =
    let h = higher_most_of c.requires.0 in
    fits! (search (h.each, h.difference3, bounded) depth 40) tt

pub overflow_add-result-4 : goal.overflow_add-result-4
overflow_add-result-4 c =
    four_fit (higher_most_of c.requires.0) c.args.at c.pair-a.ensures

pub overflow_add-result-5 : goal.overflow_add-result-5
overflow_add-result-5 c =
    four_total_fits (higher_most_of c.requires.0) c.args.at c.pair-a.ensures

pub returns : goal.returns
returns c =
    four_total_is (higher_most_of c.requires.0) c.args.at c.pair-a.ensures (omega (arith, c.if-t-lt5.false))
