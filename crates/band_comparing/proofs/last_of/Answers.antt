-- The first node at the last depth.
use mathlib.Core.Path.{sym, ap}
use Prim.Native.Nat.{◌^◌}
use Rattle.setting.proofs.Depths.{deepest_low, deepest_high}
use Rattle.band_comparing.proofs.last_of.Goals as goal

pub returns-then-degree-le3 : goal.returns-then-degree-le3
returns-then-degree-le3 c = sym (ap (λ n. 2 ^ n) (deepest_low c.args.degree c.if-degree-le3.true))

pub returns-else-degree-le3 : goal.returns-else-degree-le3
returns-else-degree-le3 c = sym (ap (λ n. 2 ^ n) (deepest_high c.args.degree c.if-degree-le3.false))
