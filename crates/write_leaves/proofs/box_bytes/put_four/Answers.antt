-- `write_leaves::box_bytes::put_four` meets its contract.
use Rattle.write_leaves.proofs.Boxes.{four_put}
use Rattle.write_leaves.proofs.box_bytes.put_four.Goals as goal

pub returns : goal.returns
returns c = search four_put
