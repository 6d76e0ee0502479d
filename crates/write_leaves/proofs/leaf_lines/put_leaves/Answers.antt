-- `write_leaves::leaf_lines::put_leaves` meets its contract. The loop's invariant: the lines of so many records are put.
use Rattle.write_leaves.proofs.LeafLines.{leaves_start, leaves_more, leaves_all}
use Rattle.write_leaves.proofs.leaf_lines.put_leaves.Goals as goal

pub loop-k-preserved : goal.loop-k-preserved
loop-k-preserved c = search leaves_more

pub loop-k-init : goal.loop-k-init
loop-k-init c = leaves_start _ _ _ _

pub returns : goal.returns
returns c = search leaves_all
