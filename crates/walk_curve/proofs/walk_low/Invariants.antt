-- The walk of a curve of degree 1 to 3. The loop's invariant: the walk stands at this part of the curve, with as many leaves passed as were
-- counted. The measure is the part's rank.
use Rattle.bound_pieces.specs.Inside.{setting_of}
use Rattle.walk_curve.proofs.Walks.{part_rank}
use Rattle.walk_curve.proofs.Counts.{Counted}
use Rattle.walk_curve.proofs.walk_low.Given as goal

abbrev pub invariant-loop-own : goal.invariant-loop-own
invariant-loop-own l = Counted (setting_of l.pieces) l.t l.initial.part.curve l.part l.leaves

abbrev pub decreases-loop-own : goal.decreases-loop-own
decreases-loop-own l = part_rank l.initial.part.curve l.part
