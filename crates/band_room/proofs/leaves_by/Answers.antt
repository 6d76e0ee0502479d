-- The least depth at which no box is too long. The loop's invariant: `part` is bend over 4^depth.
use mathlib.Core.Path.{sym, ◌∙◌}
use Prim.Native.Nat.{◌^◌}
use native.Mathlib.Omega.{arith}
use borrow.Author.Tests.{not-true}
use Rattle.integers.proofs.Machine.{fits!, flag! }
use Rattle.bound_coordinate.specs.Inside.{Small}
use Rattle.bound_coordinate.proofs.Coordinates.{bounded, small! }
use Rattle.bound_pieces.proofs.Apart.{tolerance_small}
use Rattle.band_room.proofs.Parts.{parted_start, parted_next, wide_fits, wide_computed, power_is, reaches}
use Rattle.band_room.proofs.leaves_by.Goals as goal
use Rattle.band_room.proofs.leaves_by.Goals.{Else-t-gt134217728}

small : (c : Else-t-gt134217728) → Small (2 ^ 27) c.args.t
small c =
    let t = c.ranges.t in
    tolerance_small (flag! c.if-t-ltminus134217728.false (search (t, bounded) depth 40) tt) (flag! c.if-t-gt134217728.false (search (t, bounded) depth 40) tt)

pub overflow_mul-square : goal.overflow_mul-square
overflow_mul-square c = fits! (search (small c, bounded) depth 40) tt

pub loop-depth-init : goal.loop-depth-init
loop-depth-init c = parted_start c.args.bend

pub overflow_cast-wide : goal.overflow_cast-wide
overflow_cast-wide c =
    record { sfits = wide_fits c.loop-depth.depth c.loop-depth.invariant c.requires }

pub overflow_add-wide : goal.overflow_add-wide
overflow_add-wide c =
    fits! (search (wide_computed c.loop-depth.depth c.loop-depth.invariant c.requires, bounded) depth 40) tt

pub is_longer-requires : goal.is_longer-requires
is_longer-requires c =
    let w = wide_computed c.loop-depth.depth c.loop-depth.invariant c.requires in
    (small! (search (w, bounded) depth 40) tt, small! (search (w, bounded) depth 40) tt)

pub returns-then-not-is_longer : goal.returns-then-not-is_longer
returns-then-not-is_longer c =
    let w = wide_computed c.loop-depth.depth c.loop-depth.invariant c.requires in
    reaches c.args.bend c.args.t c.loop-depth.depth (omega (arith, c.loop-depth-test.true)) c.loop-depth.invariant
    (power_is (omega (arith, c.loop-depth-test.true)))
    (flag! (sym c.is_longer.ensures ∙ not-true c.is_longer.result c.if-not-is_longer.true-raw)
    (search (w, small (goal.at.returns-then-not-is_longer c).Else-t-gt134217728, bounded) depth 40) tt)

pub loop-depth-preserved : goal.loop-depth-preserved
loop-depth-preserved c =
    parted_next c.args.bend c.loop-depth.depth c.loop-depth.invariant
