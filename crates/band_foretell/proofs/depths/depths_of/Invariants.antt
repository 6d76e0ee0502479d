-- The depths of the curves of an outline. The loop's invariant: with k curves done, their depths stand at the front of the list and are added up.
use lib.IntN.{pos}
use Rattle.setting.specs.Setting.{lists}
use Rattle.band_foretell.proofs.Telling.{Telling}
use Rattle.band_foretell.proofs.depths.depths_of.Given as goal

abbrev pub invariant-loop-k : goal.invariant-loop-k
invariant-loop-k l = Telling (lists l.m) (pos l.t) l.ns l.curves l.initial.depths l.k l.at l.sums l.depths
