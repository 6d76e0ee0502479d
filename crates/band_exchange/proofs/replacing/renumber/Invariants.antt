-- Records renumbered one by one. The loop's invariant: what is left to do, from the record at hand on, is what there was to do from the first
-- on.
use mathlib.Core.Path.{◌≡◌}
use Prim.Native.Nat.{◌+◌, ◌-◌, ◌*◌}
use lib.ListN.{length}
use Rattle.band_exchange.specs.Inside.{renumbered}
use Rattle.band_exchange.proofs.replacing.renumber.Given as goal

abbrev pub invariant-loop-i : goal.invariant-loop-i
invariant-loop-i l =
    (renumbered l.records (l.place + l.record_length * l.i) l.record_length (l.n - l.i) l.number
    ≡ renumbered l.initial.records l.place l.record_length l.n l.number)
    × (length l.records ≡ length l.initial.records)
