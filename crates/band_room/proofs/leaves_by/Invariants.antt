-- The least depth at which no box is too long. The loop's invariant: `part` is bend over 4^depth.
use mathlib.Core.Path.{◌≡◌}
use Prim.Native.Nat.{◌/◌, ◌^◌}
use Rattle.band_room.proofs.leaves_by.Given as goal

abbrev pub invariant-loop-depth : goal.invariant-loop-depth
invariant-loop-depth l = l.part ≡ l.bend / 4 ^ l.depth
