-- One coordinate of a quintic carried on: it begins where the coordinate ends, and its forward differences are the coordinate's, carried on by the degree below.
use Prim.Native.Nat.{◌^◌}
use lib.Dec.{lit≤}
use Rattle.curve_halves.proofs.Sizes.{each_wider}
use Rattle.curve_onward.proofs.ForwardDifferences.{each_forward_difference}
use Rattle.curve_onward.proofs.Kept.{Below, below_by, next_fits, next_are}
use Rattle.curve_onward.proofs.onward_quintic.Goals as goal
use Rattle.curve_onward.proofs.onward_quintic.Goals.{After-s4-1}

pub forward_differences-requires : goal.forward_differences-requires
forward_differences-requires c = each_wider (lit≤ tt) c.requires.1

pub onward_quartic-s-requires : goal.onward_quartic-s-requires
onward_quartic-s-requires c = (c.requires.0, rw c.forward_differences.ensures (each_forward_difference c.requires.1))

-- what the degree below gave
given : (c : After-s4-1)
    → Below (2 ^ 44) c.args.c c.onward_quartic-s.result 4 c.args.k
given c = below_by c.requires.1 c.forward_differences.ensures c.onward_quartic-s.ensures

pub returns : goal.returns
returns c = next_are (given c) tt tt

pub overflow_add-r1 : goal.overflow_add-r1
overflow_add-r1 c = next_fits (given c) tt 0 tt tt

pub overflow_add-r2 : goal.overflow_add-r2
overflow_add-r2 c = next_fits (given c) tt 1 tt tt

pub overflow_add-r3 : goal.overflow_add-r3
overflow_add-r3 c = next_fits (given c) tt 2 tt tt

pub overflow_add-r4 : goal.overflow_add-r4
overflow_add-r4 c = next_fits (given c) tt 3 tt tt

pub overflow_add-result : goal.overflow_add-result
overflow_add-result c = next_fits (given c) tt 4 tt tt
