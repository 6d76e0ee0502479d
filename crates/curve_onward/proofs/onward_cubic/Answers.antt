-- One coordinate of a cubic carried on: the sums are those of its forward differences, carried on.
use Prim.Native.Nat.{◌^◌}
use Rattle.curve_halves.specs.Sizes.{Each}
use Rattle.curve_onward.proofs.Kept.{forward_difference_fits, sum_fits, onward_are}
use Rattle.curve_onward.proofs.onward_cubic.Goals as goal
use Rattle.curve_onward.proofs.onward_cubic.Goals.{After-c3-1}

each : (c : After-c3-1) → Each (2 ^ 46) c.args.c
each c = c.requires.1

pub returns : goal.returns
returns c = onward_are (each c) 2 c.args.k tt

pub overflow_sub-d0 : goal.overflow_sub-d0
overflow_sub-d0 c = forward_difference_fits (each c) 0 0 tt

pub overflow_sub-d1 : goal.overflow_sub-d1
overflow_sub-d1 c = forward_difference_fits (each c) 0 1 tt

pub overflow_sub-d2 : goal.overflow_sub-d2
overflow_sub-d2 c = forward_difference_fits (each c) 0 2 tt

pub overflow_sub-e0 : goal.overflow_sub-e0
overflow_sub-e0 c = forward_difference_fits (each c) 1 0 tt

pub overflow_sub-e1 : goal.overflow_sub-e1
overflow_sub-e1 c = forward_difference_fits (each c) 1 1 tt

pub overflow_sub-t1 : goal.overflow_sub-t1
overflow_sub-t1 c = forward_difference_fits (each c) 2 0 tt

pub overflow_add-t1 : goal.overflow_add-t1
overflow_add-t1 c = sum_fits (each c) 0 _ 2 0 tt tt

pub overflow_add-s1 : goal.overflow_add-s1
overflow_add-s1 c = sum_fits (each c) 1 _ 1 0 tt tt

pub overflow_add-s2 : goal.overflow_add-s2
overflow_add-s2 c = sum_fits (each c) 1 _ 1 1 tt tt

pub overflow_add-r1 : goal.overflow_add-r1
overflow_add-r1 c = sum_fits (each c) 2 _ 0 0 tt tt

pub overflow_add-r2 : goal.overflow_add-r2
overflow_add-r2 c = sum_fits (each c) 2 _ 0 1 tt tt

pub overflow_add-result : goal.overflow_add-result
overflow_add-result c = sum_fits (each c) 2 _ 0 2 tt tt
