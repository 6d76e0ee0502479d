-- The rows of one second difference. The loop's invariant: the numbers of the break points before i were put.
use mathlib.Core.Path.{◌≡◌}
use Prim.Native.Nat.{◌+◌}
use native.Mathlib.Omega.{arith}
use lib.ListN.{length-set}
use Rattle.integers.proofs.Machine.{fits!, is! }
use Rattle.bound_row_table.proofs.Entries.{products}
use Rattle.bound_row_table.proofs.Copying.{put_none, row_more}
use Rattle.bound_row_table.proofs.put_row.Goals as goal

pub loop-i-preserved : goal.loop-i-preserved
loop-i-preserved c =
    let a = c.args in
    let p = c.requires in
    row_more a.m a.from p.0 (omega arith) p.3 (is! (search products depth 40) tt) (is! (search products depth 40) tt)
    (is! (search products depth 40) tt) c.loop-i.invariant

pub shape_of-rows : goal.shape_of-rows
shape_of-rows c = c.loop-i.invariant.whole

pub returns : goal.returns
returns c = let e : c.loop-i.i ≡ c.args.m + 1 = omega arith in rw e at c.loop-i.invariant

pub loop-i-init : goal.loop-i-init
loop-i-init c = put_none

pub overflow_cast-high : goal.overflow_cast-high
overflow_cast-high c = fits! (search products depth 40) tt

pub overflow_mul-high : goal.overflow_mul-high
overflow_mul-high c = fits! (search products depth 40) tt

pub overflow_cast-low : goal.overflow_cast-low
overflow_cast-low c = fits! (search products depth 40) tt

pub overflow_mul-low : goal.overflow_mul-low
overflow_mul-low c = fits! (search products depth 40) tt

pub bounds-rows-at-in-loop-i : goal.bounds-rows-at-in-loop-i
bounds-rows-at-in-loop-i c = simp length-set (omega arith)

pub bounds-rows-at-in-loop-i-2 : goal.bounds-rows-at-in-loop-i-2
bounds-rows-at-in-loop-i-2 c = simp length-set (omega arith)
