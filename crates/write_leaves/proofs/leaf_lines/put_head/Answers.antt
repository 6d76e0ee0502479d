-- `write_leaves::leaf_lines::put_head` meets its contract.
use Rattle.write_leaves.proofs.LeafLines.{head_put}
use Rattle.write_leaves.proofs.leaf_lines.put_head.Goals as goal

pub returns : goal.returns
returns c = search head_put
