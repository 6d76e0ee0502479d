-- The largest of the second differences passed, one at a time.
use mathlib.Core.Path.{◌≡◌}
use Prim.Native.Nat.{◌-◌, ◌≤◌}
use lib.IntN.{nat_abs}
use Rattle.curve_nodes.specs.Differences.{difference, largest_of}
use Rattle.band_foretell.proofs.bending.bend.Given as goal

abbrev pub invariant-loop-k : goal.invariant-loop-k
invariant-loop-k l = (l.k ≤ l.degree - 1) × (l.most ≡ largest_of l.k (λ i. nat_abs (difference l.c i)))
