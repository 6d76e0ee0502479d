-- `integers::floor_div` meets its contract, at every dividend: the quotient towards zero, less one where the remainder is negative.
use Rattle.integers.proofs.Rounding.{division_defined, floor_then_fits, floor_then_is, floor_else_is}
use Rattle.integers.proofs.floor_div.Goals as goal

pub nonzero_div-q : goal.nonzero_div-q
nonzero_div-q c = division_defined c.ranges.n c.ranges.d c.requires

pub nonzero_rem-r : goal.nonzero_rem-r
nonzero_rem-r c = division_defined c.ranges.n c.ranges.d c.requires

pub overflow_sub-result : goal.overflow_sub-result
overflow_sub-result c = floor_then_fits c.ranges.n c.ranges.d c.requires c.if-r-lt0.true

pub returns-then-r-lt0 : goal.returns-then-r-lt0
returns-then-r-lt0 c = floor_then_is c.ranges.n c.ranges.d c.requires c.if-r-lt0.true

pub returns-else-r-lt0 : goal.returns-else-r-lt0
returns-else-r-lt0 c = floor_else_is c.ranges.n c.ranges.d c.requires c.if-r-lt0.false
