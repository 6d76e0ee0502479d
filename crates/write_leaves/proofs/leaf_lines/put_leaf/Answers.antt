-- `write_leaves::leaf_lines::put_leaf` meets its contract.
use Rattle.write_leaves.proofs.LeafLines.{leaf_put}
use Rattle.write_leaves.proofs.leaf_lines.put_leaf.Goals as goal

pub returns : goal.returns
returns c = search leaf_put
