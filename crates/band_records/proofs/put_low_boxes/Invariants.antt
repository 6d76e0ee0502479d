-- The boxes at the break points of a curve. The loop's invariant: the boxes before i stand in their places.
use mathlib.Core.Path.{◌≡◌}
use lib.Seq.{sets}
use Rattle.band_records.specs.Inside.{box_by}
use Rattle.band_records.proofs.Writing.{joined_to}
use Rattle.band_records.proofs.put_low_boxes.Given as goal

abbrev pub invariant-loop-i : goal.invariant-loop-i
invariant-loop-i l =
    l.records ≡ sets l.initial.records l.at (joined_to l.i (box_by l.pieces.divisor l.shift l.rows l.x l.y))
