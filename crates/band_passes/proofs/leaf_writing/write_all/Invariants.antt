-- The records of every leaf of a list's curves. The loop's invariant: with k curves done, the front of the list holds their records.
use Rattle.bound_pieces.specs.Inside.{setting_of}
use Rattle.band_passes.specs.Inside.{form_of, numbers_of}
use Rattle.band_passes.proofs.Filling.{Filled}
use Rattle.band_passes.proofs.leaf_writing.write_all.Given as goal

abbrev pub invariant-loop-k : goal.invariant-loop-k
invariant-loop-k l =
    Filled (setting_of l.pieces) l.t (form_of l.list) (numbers_of l.list) l.curves l.initial.records l.k l.at l.place l.records
