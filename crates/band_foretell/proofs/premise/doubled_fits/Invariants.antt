-- The descent: what is asked of p and q, turned or not, is at each turn the question of a and b.
use mathlib.Core.Path.{◌≡◌}
use mathlib.Core.Bool.{true}
use Prim.Native.Nat.{◌+◌, ◌<◌, ◌^◌}
use lib.IntN.{pos}
use Rattle.band_foretell.specs.Inside.{doubled_fits}
use Rattle.band_foretell.proofs.Descent.{asked}
use Rattle.band_foretell.proofs.premise.doubled_fits.Given as goal

abbrev pub invariant-loop-q : goal.invariant-loop-q
invariant-loop-q l = (asked l.turned l.p l.q ≡ doubled_fits (pos l.a) (pos l.b)) × (l.turned ≡ true → 0 < l.q) × (l.p < 2 ^ 62) × (l.q < 2 ^ 62)

abbrev pub decreases-loop-q : goal.decreases-loop-q
decreases-loop-q l = l.p + l.q
