-- Six times the control values of a coordinate: sums of numbers of 32 bits, which fit.
use Prim.Native.Nat.{◌^◌, ◌<◌}
use lib.IntN.{ℤ}
use lib.Signed.{mag}
use mir.Syntax.{w32}
use Rattle.integers.proofs.Ranges.{stored}
use Rattle.integers.proofs.Machine.{Held, held_add, held_mul, held_stored, held_parameter, held_pos}
use Rattle.curve_halves.proofs.Halving.{held_none, held_more, are! }
use Rattle.outline_splines.proofs.spline_values.Goals as goal

-- an element as it was read
abbrev held-read : (z : ℤ) → mag z < 2 ^ 31 → Held (stored w32 z)
held-read z h = held_parameter w32 z (record { sfits = h })

ruleset read = (held_more, held_none, held_add, held_mul, held_stored, held-read, held_pos)

pub returns : goal.returns
returns c = are! (search read depth 60 fits 9999) tt
