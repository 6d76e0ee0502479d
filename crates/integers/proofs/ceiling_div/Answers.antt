-- `integers::ceiling_div` meets its contract, at every dividend: the quotient towards zero, and one more where the remainder is positive.
use Rattle.integers.proofs.Rounding.{division_defined, ceiling_then_fits, ceiling_then_is, ceiling_else_is}
use Rattle.integers.proofs.ceiling_div.Goals as goal

pub nonzero_div-q : goal.nonzero_div-q
nonzero_div-q c = division_defined c.ranges.n c.ranges.d c.requires

pub nonzero_rem-r : goal.nonzero_rem-r
nonzero_rem-r c = division_defined c.ranges.n c.ranges.d c.requires

pub overflow_add-result : goal.overflow_add-result
overflow_add-result c = ceiling_then_fits c.ranges.n c.ranges.d c.requires c.if-r-gt0.true

pub returns-then-r-gt0 : goal.returns-then-r-gt0
returns-then-r-gt0 c = ceiling_then_is c.ranges.n c.ranges.d c.requires c.if-r-gt0.true

pub returns-else-r-gt0 : goal.returns-else-r-gt0
returns-else-r-gt0 c = ceiling_else_is c.ranges.n c.ranges.d c.requires c.if-r-gt0.false
