-- The test of a node of degree 4 or 5 by its boxes. The loop's invariant: no box before i is too long.
use Rattle.bound_pieces.specs.Inside.{higher_across_by}
use Rattle.bound_tolerance.proofs.ToleranceLaws.{Passed}
use Rattle.bound_tolerance_higher.proofs.boxes_meet.Given as goal

abbrev pub invariant-loop-i : goal.invariant-loop-i
invariant-loop-i l = Passed l.m l.square (higher_across_by l.m l.shift l.rows l.x l.y) l.i
