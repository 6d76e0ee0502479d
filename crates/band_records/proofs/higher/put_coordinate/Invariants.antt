-- The low and the high of one coordinate at every break point: each fits 32 bits. The loop's invariant: those before i stand in their places.
use mathlib.Core.Path.{◌≡◌}
use Rattle.band_records.specs.Inside.{put_pairs_by}
use Rattle.band_records.proofs.higher.put_coordinate.Given as goal

abbrev pub invariant-loop-i : goal.invariant-loop-i
invariant-loop-i l = l.records ≡ put_pairs_by l.initial.records l.at l.m l.shift l.rows l.z l.i
