-- `write_leaves::box_bytes::put_boxes` meets its contract. The loop's invariant: so many boxes are put.
use Rattle.write_leaves.proofs.Boxes.{boxes_start, boxes_more, boxes_all}
use Rattle.write_leaves.proofs.box_bytes.put_boxes.Goals as goal

pub loop-i-preserved : goal.loop-i-preserved
loop-i-preserved c = search boxes_more

pub loop-i-init : goal.loop-i-init
loop-i-init c = boxes_start _ _ _ _

pub returns : goal.returns
returns c = search boxes_all
