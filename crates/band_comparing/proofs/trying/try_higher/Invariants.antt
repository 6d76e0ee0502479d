-- The boxes of a curve of degree 4 or 5 tried. The loop's invariant: those before break point i are narrow, and the numbers agree so far. The
-- measure is what is left of m + 1.
use Rattle.bound_pieces.specs.Inside.{higher_across_by}
use Rattle.band_comparing.specs.Inside.{higher_box_by}
use Rattle.band_comparing.proofs.TryLaws.{Going}
use Rattle.band_comparing.proofs.trying.try_higher.Given as goal

abbrev pub invariant-loop-i : goal.invariant-loop-i
invariant-loop-i l =
    Going l.given l.reach l.at l.m (higher_across_by l.m l.shift l.rows l.x l.y) l.square (higher_box_by l.m l.shift l.rows l.x l.y) l.i l.to
