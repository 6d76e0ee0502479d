-- `write_leaves::leaf_lines::put_leaves` meets its contract. The loop's invariant: the lines of so many records are put.
use Rattle.write_leaves.specs.Leaves.{leaf_lines}
use Rattle.write_leaves.proofs.Boxes.{PutSoFar}
use Rattle.write_leaves.proofs.leaf_lines.put_leaves.Given as goal

abbrev pub invariant-loop-k : goal.invariant-loop-k
invariant-loop-k l = PutSoFar 231 (leaf_lines l.records) l.n l.initial.out l.«from» l.out l.at l.k
