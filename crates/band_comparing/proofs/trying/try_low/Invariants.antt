-- The boxes of a curve tried. The loop's invariant: those before break point i are narrow, and the numbers agree so far. The measure is what is
-- left of m + 1.
use Rattle.bound_pieces.specs.Inside.{across_by}
use Rattle.band_records.specs.Inside.{box_by}
use Rattle.band_comparing.proofs.TryLaws.{Going}
use Rattle.band_comparing.proofs.trying.try_low.Given as goal

abbrev pub invariant-loop-i : goal.invariant-loop-i
invariant-loop-i l =
    Going l.given l.reach l.at l.m (across_by l.m l.shift l.rows l.x l.y) l.square (box_by l.m l.shift l.rows l.x l.y) l.i l.to
