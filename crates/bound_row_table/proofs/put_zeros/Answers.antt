-- Zeros. The loop's invariant: i of them were put.
use mathlib.Core.Path.{◌≡◌, refl}
use native.Mathlib.Omega.{arith}
use Rattle.bound_row_table.proofs.Copying.{put_none, put_more}
use Rattle.bound_row_table.proofs.put_zeros.Goals as goal

pub loop-i-preserved : goal.loop-i-preserved
loop-i-preserved c = put_more _ refl refl (omega arith) refl c.loop-i.invariant

pub returns : goal.returns
returns c = let e : c.loop-i.i ≡ 27 = omega arith in rw e at c.loop-i.invariant

pub loop-i-init : goal.loop-i-init
loop-i-init c = put_none
