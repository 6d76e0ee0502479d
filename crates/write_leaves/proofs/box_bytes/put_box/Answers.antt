-- `write_leaves::box_bytes::put_box` meets its contract.
use Rattle.write_leaves.proofs.Boxes.{box_put}
use Rattle.write_leaves.proofs.box_bytes.put_box.Goals as goal

pub returns : goal.returns
returns c = search box_put
