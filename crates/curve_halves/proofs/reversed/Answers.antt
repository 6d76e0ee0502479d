-- The control values of one coordinate in reverse order, by the degree.
use mathlib.Core.Path.{◌≡◌}
use Prim.Native.Nat.{◌^◌, ◌<◌}
use native.Mathlib.Omega.{arith}
use lib.IntN.{ℤ}
use lib.Signed.{mag}
use mir.Syntax.{w64}
use Rattle.integers.proofs.Ranges.{stored}
use Rattle.integers.proofs.Machine.{Held, held_parameter, held_pos}
use Rattle.curve_halves.proofs.Halving.{held_none, held_more, are! }
use Rattle.curve_halves.proofs.reversed.Goals as goal

-- a value as it was read
abbrev held-read : (z : ℤ) → mag z < 2 ^ 63 → Held (stored w64 z)
held-read z h = held_parameter w64 z (record { sfits = h })

ruleset read = (held_more, held_none, held-read, held_pos)

pub returns-in-1 : goal.returns-in-1
returns-in-1 c = rw c.in-1.is (are! (search read depth 40) tt)

pub returns-in-2 : goal.returns-in-2
returns-in-2 c = rw c.in-2.is (are! (search read depth 40) tt)

pub returns-in-3 : goal.returns-in-3
returns-in-3 c = rw c.in-3.is (are! (search read depth 40) tt)

pub returns-in-4 : goal.returns-in-4
returns-in-4 c = rw c.in-4.is (are! (search read depth 40) tt)

pub returns-in_default : goal.returns-in_default
returns-in_default c =
    let e : c.args.degree ≡ 5 = omega arith in
    rw e (are! (search read depth 40) tt)
