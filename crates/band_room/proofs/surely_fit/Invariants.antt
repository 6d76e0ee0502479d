-- Whether the leaves of a list's curves surely have room. The loop's invariant: `Fitting`.
use Rattle.bound_pieces.specs.Inside.{setting_of}
use Rattle.band_passes.specs.Inside.{form_of, numbers_of}
use Rattle.band_room.proofs.Fitting.{Fitting}
use Rattle.band_room.proofs.surely_fit.Given as goal

abbrev pub invariant-loop-k : goal.invariant-loop-k
invariant-loop-k l =
    Fitting (setting_of l.pieces) l.t (form_of l.list) (numbers_of l.list) l.curves l.room l.k l.at l.left
