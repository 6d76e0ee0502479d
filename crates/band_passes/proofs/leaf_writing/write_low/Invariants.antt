-- The records of the leaves of a curve of degree 1 to 3. The loop's invariant: the walk stands at this part of the curve, and the list holds the
-- records of the leaves that it passed. The measure is the part's rank.
use Rattle.bound_pieces.specs.Inside.{setting_of}
use Rattle.walk_curve.proofs.Walks.{part_rank}
use Rattle.band_passes.proofs.Recording.{Recorded}
use Rattle.band_passes.proofs.leaf_writing.write_low.Given as goal

abbrev pub invariant-loop-met : goal.invariant-loop-met
invariant-loop-met l = Recorded (setting_of l.pieces) l.t l.initial.part.curve l.number l.initial.records l.at l.part l.place l.records

abbrev pub decreases-loop-met : goal.decreases-loop-met
decreases-loop-met l = part_rank l.initial.part.curve l.part
