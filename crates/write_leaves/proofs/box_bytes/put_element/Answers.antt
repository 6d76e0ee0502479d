-- `write_leaves::box_bytes::put_element` meets its contract.
use Rattle.write_leaves.proofs.Boxes.{element_put}
use Rattle.write_leaves.proofs.box_bytes.put_element.Goals as goal

pub returns : goal.returns
returns c = search element_put
