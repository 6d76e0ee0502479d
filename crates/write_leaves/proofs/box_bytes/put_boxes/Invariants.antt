-- `write_leaves::box_bytes::put_boxes` meets its contract. The loop's invariant: so many boxes are put.
use Rattle.write_leaves.specs.Boxes.{boxes_bytes}
use Rattle.write_leaves.proofs.Boxes.{PutSoFar}
use Rattle.write_leaves.proofs.box_bytes.put_boxes.Given as goal

abbrev pub invariant-loop-i : goal.invariant-loop-i
invariant-loop-i l = PutSoFar 50 (boxes_bytes l.ns l.k) 4 l.initial.out l.«from» l.out l.at l.i
