-- The walk of a curve of degree 4 or 5. The loop's invariant: the walk stands at this part of the curve, with as many leaves passed as were
-- counted. The measure is the part's rank.
use Rattle.bound_pieces.specs.Inside.{setting_of}
use Rattle.walk_curve.proofs.Walks.{part_rank}
use Rattle.walk_curve.proofs.Counts.{Counted}
use Rattle.walk_curve.proofs.walk_higher.Given as goal

abbrev pub invariant-loop-met : goal.invariant-loop-met
invariant-loop-met l = Counted (setting_of l.pieces) l.t l.initial.part.curve l.part l.leaves

abbrev pub decreases-loop-met : goal.decreases-loop-met
decreases-loop-met l = part_rank l.initial.part.curve l.part
