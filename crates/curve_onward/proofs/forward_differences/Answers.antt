-- The forward differences of one coordinate.
use Prim.Native.Nat.{◌^◌}
use Rattle.curve_halves.specs.Sizes.{Each}
use Rattle.curve_onward.proofs.Kept.{forward_difference_fits, forward_differences_are}
use Rattle.curve_onward.proofs.forward_differences.Goals as goal
use Rattle.curve_onward.proofs.forward_differences.Goals.{After-c5-1}

each : (c : After-c5-1) → Each (2 ^ 45) c.args.c
each c = c.requires

pub returns : goal.returns
returns c = forward_differences_are (each c) tt

pub overflow_sub-result : goal.overflow_sub-result
overflow_sub-result c = forward_difference_fits (each c) 0 0 tt

pub overflow_sub-result-2 : goal.overflow_sub-result-2
overflow_sub-result-2 c = forward_difference_fits (each c) 0 1 tt

pub overflow_sub-result-3 : goal.overflow_sub-result-3
overflow_sub-result-3 c = forward_difference_fits (each c) 0 2 tt

pub overflow_sub-result-4 : goal.overflow_sub-result-4
overflow_sub-result-4 c = forward_difference_fits (each c) 0 3 tt

pub overflow_sub-result-5 : goal.overflow_sub-result-5
overflow_sub-result-5 c = forward_difference_fits (each c) 0 4 tt
