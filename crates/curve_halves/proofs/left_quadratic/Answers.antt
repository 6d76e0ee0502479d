-- The left half of one coordinate of a quadratic: the sums are those of de Casteljau's triangle.
use Prim.Native.Nat.{◌^◌}
use Rattle.curve_halves.specs.Sizes.{Each}
use Rattle.curve_halves.proofs.Kept.{sum_fits, times_fits, left_are}
use Rattle.curve_halves.proofs.left_quadratic.Goals as goal
use Rattle.curve_halves.proofs.left_quadratic.Goals.{After-c2-1}

each : (c : After-c2-1) → Each (2 ^ 44) c.args.c
each c = c.requires

pub returns : goal.returns
returns c = left_are (each c) 2 tt

pub overflow_add-s0 : goal.overflow_add-s0
overflow_add-s0 c = sum_fits (each c) 0 0 tt

pub overflow_add-s1 : goal.overflow_add-s1
overflow_add-s1 c = sum_fits (each c) 0 1 tt

pub overflow_mul-result : goal.overflow_mul-result
overflow_mul-result c = times_fits (each c) 4 0 tt tt

pub overflow_mul-result-2 : goal.overflow_mul-result-2
overflow_mul-result-2 c = times_fits (each c) 2 1 tt tt

pub overflow_add-result : goal.overflow_add-result
overflow_add-result c = sum_fits (each c) 1 0 tt
