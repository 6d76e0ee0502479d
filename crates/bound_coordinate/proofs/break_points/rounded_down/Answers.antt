-- Division by 625 times the divisor and a power of 2, rounded down: each step fits, and what is returned is the floor.
use native.Mathlib.Nat.{lt_of_le_of_lt}
use lib.Dec.{lit<}
use Rattle.bound_coordinate.proofs.Quotients.{scale_small, product_fits, sum_fits, raised_unsigned, quotient_fits, lowered_fits, lowered}
use Rattle.bound_coordinate.proofs.break_points.rounded_down.Goals as goal

pub overflow_cast-raised-2 : goal.overflow_cast-raised-2
overflow_cast-raised-2 c =
    let p = c.requires in
    let a = c.args in
    record { sfits = lt_of_le_of_lt (scale_small a.n a.divisor a.shift a.scale p.0 p.2 p.3) (lit< tt) }

pub overflow_mul-raised : goal.overflow_mul-raised
overflow_mul-raised c =
    let p = c.requires in
    let a = c.args in
    product_fits a.n a.divisor a.shift a.scale p.0 p.2 p.3 c.ranges.n

pub overflow_add-raised : goal.overflow_add-raised
overflow_add-raised c =
    let p = c.requires in
    let a = c.args in
    sum_fits a.n a.divisor a.shift a.scale p.0 p.2 p.3 c.ranges.n

pub overflow_cast-result : goal.overflow_cast-result
overflow_cast-result c =
    let p = c.requires in
    let a = c.args in
    raised_unsigned a.n a.divisor a.shift a.scale p.0 p.2 p.3 c.ranges.n

pub overflow_cast-result-2 : goal.overflow_cast-result-2
overflow_cast-result-2 c =
    let p = c.requires in
    let a = c.args in
    record { sfits = quotient_fits a.n a.divisor a.shift a.scale p.0 p.2 p.3 c.ranges.n }

pub overflow_sub-result : goal.overflow_sub-result
overflow_sub-result c =
    let p = c.requires in
    let a = c.args in
    lowered_fits a.n a.divisor a.shift a.scale p.0 p.2 p.3 c.ranges.n

pub returns : goal.returns
returns c =
    let p = c.requires in
    let a = c.args in
    lowered a.n a.divisor a.shift a.scale p.0 p.2 p.3 c.ranges.n
