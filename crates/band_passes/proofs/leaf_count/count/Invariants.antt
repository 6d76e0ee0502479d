-- `band_passes::leaf_count::count` meets its contract. The loop's invariant: with k curves done and so many leaves counted, the whole list's
-- answer is what the rest of it gives, counted on.
use Rattle.bound_pieces.specs.Inside.{setting_of}
use Rattle.band_passes.specs.Inside.{form_of, numbers_of}
use Rattle.band_passes.proofs.CountPasses.{Passed}
use Rattle.band_passes.proofs.leaf_count.count.Given as goal

abbrev pub invariant-loop-k : goal.invariant-loop-k
invariant-loop-k l =
    Passed (setting_of l.pieces) l.t (form_of l.list) (numbers_of l.list) l.curves l.k l.at l.leaves
