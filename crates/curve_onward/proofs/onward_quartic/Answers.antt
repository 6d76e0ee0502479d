-- One coordinate of a quartic carried on: it begins where the coordinate ends, and its forward differences are the coordinate's, carried on by the degree below.
use Prim.Native.Nat.{◌^◌}
use Rattle.curve_onward.proofs.ForwardDifferences.{each_forward_difference}
use Rattle.curve_onward.proofs.Kept.{Below, below_by, next_fits, next_are}
use Rattle.curve_onward.proofs.onward_quartic.Goals as goal
use Rattle.curve_onward.proofs.onward_quartic.Goals.{After-s3-1}

pub onward_cubic-s-requires : goal.onward_cubic-s-requires
onward_cubic-s-requires c = (c.requires.0, rw c.forward_differences.ensures (each_forward_difference c.requires.1))

-- what the degree below gave
given : (c : After-s3-1)
    → Below (2 ^ 45) c.args.c c.onward_cubic-s.result 3 c.args.k
given c = below_by c.requires.1 c.forward_differences.ensures c.onward_cubic-s.ensures

pub returns : goal.returns
returns c = next_are (given c) tt tt

pub overflow_add-r1 : goal.overflow_add-r1
overflow_add-r1 c = next_fits (given c) tt 0 tt tt

pub overflow_add-r2 : goal.overflow_add-r2
overflow_add-r2 c = next_fits (given c) tt 1 tt tt

pub overflow_add-r3 : goal.overflow_add-r3
overflow_add-r3 c = next_fits (given c) tt 2 tt tt

pub overflow_add-result : goal.overflow_add-result
overflow_add-result c = next_fits (given c) tt 3 tt tt
