-- The pass over all curves. The loop's invariant: it stands before curve k, whatever was found before.
use Rattle.setting.specs.Setting.{lists}
use Rattle.band_comparing.proofs.CompareLaws.{Comparing}
use Rattle.band_comparing.proofs.compare.Given as goal

abbrev pub invariant-loop-k : goal.invariant-loop-k
invariant-loop-k l =
    Comparing (lists l.m) l.t l.ns l.curves l.number l.given l.shown l.k l.here l.first l.second l.reach
