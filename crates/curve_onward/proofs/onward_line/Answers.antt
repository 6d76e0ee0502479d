-- One coordinate of a line carried on: its forward difference stays.
use Prim.Native.Nat.{◌^◌}
use Rattle.curve_halves.specs.Sizes.{Each}
use Rattle.curve_onward.proofs.Kept.{forward_difference_fits, sum_fits, onward_are}
use Rattle.curve_onward.proofs.onward_line.Goals as goal
use Rattle.curve_onward.proofs.onward_line.Goals.{After-c1-1}

each : (c : After-c1-1) → Each (2 ^ 44) c.args.c
each c = c.requires.1

pub returns : goal.returns
returns c = onward_are (each c) 0 c.args.k tt

pub overflow_sub-result : goal.overflow_sub-result
overflow_sub-result c = forward_difference_fits (each c) 0 0 tt

pub overflow_add-result : goal.overflow_add-result
overflow_add-result c = sum_fits (each c) 0 _ 0 0 tt tt
