-- The rows of some second differences. The loop's invariant: the rows before k were put.
use mathlib.Core.Path.{◌≡◌}
use native.Mathlib.Omega.{arith}
use Rattle.bound_row_table.proofs.Copying.{row_inside, rows_none, rows_more}
use Rattle.bound_row_table.proofs.put_degree.Goals as goal

pub put_row-requires : goal.put_row-requires
put_row-requires c =
    let inside = row_inside c.args.m c.loop-k-test.true in
    (c.requires.0, omega (arith, inside), c.requires.2, omega (arith, c.loop-k.invariant.whole))

pub loop-k-preserved : goal.loop-k-preserved
loop-k-preserved c =
    rows_more c.requires.2 c.put_row.ensures c.loop-k.invariant

pub shape_of-rows : goal.shape_of-rows
shape_of-rows c = c.loop-k.invariant.whole

pub returns : goal.returns
returns c = let e : c.loop-k.k ≡ c.args.n = omega arith in rw e at c.loop-k.invariant

pub loop-k-init : goal.loop-k-init
loop-k-init c = rows_none

pub overflow_mul-k : goal.overflow_mul-k
overflow_mul-k c = omega arith

pub overflow_add-at : goal.overflow_add-at
overflow_add-at c = omega arith

pub overflow_add-m : goal.overflow_add-m
overflow_add-m c = omega arith

pub overflow_mul-m : goal.overflow_mul-m
overflow_mul-m c = omega arith

pub overflow_mul-k-in-loop-k : goal.overflow_mul-k-in-loop-k
overflow_mul-k-in-loop-k c = omega (arith, row_inside c.args.m c.loop-k-test.true)

pub overflow_add-from : goal.overflow_add-from
overflow_add-from c = omega (arith, row_inside c.args.m c.loop-k-test.true)
