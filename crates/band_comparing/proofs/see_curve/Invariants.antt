-- The walk of a curve that compares. The loop's invariant: the walk stands at this part of the curve, and the numbers given agree so far with the
-- records of the leaves passed. The measure is the part's rank.
use Rattle.setting.specs.Setting.{lists}
use Rattle.walk_curve.proofs.Walks.{part_rank}
use Rattle.band_comparing.proofs.SeeLaws.{Seeing}
use Rattle.band_comparing.proofs.see_curve.Given as goal

abbrev pub invariant-loop-part : goal.invariant-loop-part
invariant-loop-part l =
    Seeing (lists l.by.m) l.t l.initial.part.curve l.number l.given l.reach l.at l.part l.place l.to

abbrev pub decreases-loop-part : goal.decreases-loop-part
decreases-loop-part l = part_rank l.initial.part.curve l.part
