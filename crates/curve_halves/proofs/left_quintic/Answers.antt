-- The left half of one coordinate of a quintic: the sums are those of de Casteljau's triangle.
use Prim.Native.Nat.{◌^◌}
use Rattle.curve_halves.specs.Sizes.{Each}
use Rattle.curve_halves.proofs.Kept.{sum_fits, times_fits, left_are}
use Rattle.curve_halves.proofs.left_quintic.Goals as goal
use Rattle.curve_halves.proofs.left_quintic.Goals.{After-c5-1}

each : (c : After-c5-1) → Each (2 ^ 44) c.args.c
each c = c.requires

pub returns : goal.returns
returns c = left_are (each c) 5 tt

pub overflow_add-s0 : goal.overflow_add-s0
overflow_add-s0 c = sum_fits (each c) 0 0 tt

pub overflow_add-s1 : goal.overflow_add-s1
overflow_add-s1 c = sum_fits (each c) 0 1 tt

pub overflow_add-s2 : goal.overflow_add-s2
overflow_add-s2 c = sum_fits (each c) 0 2 tt

pub overflow_add-s3 : goal.overflow_add-s3
overflow_add-s3 c = sum_fits (each c) 0 3 tt

pub overflow_add-s4 : goal.overflow_add-s4
overflow_add-s4 c = sum_fits (each c) 0 4 tt

pub overflow_add-t0 : goal.overflow_add-t0
overflow_add-t0 c = sum_fits (each c) 1 0 tt

pub overflow_add-t1 : goal.overflow_add-t1
overflow_add-t1 c = sum_fits (each c) 1 1 tt

pub overflow_add-t2 : goal.overflow_add-t2
overflow_add-t2 c = sum_fits (each c) 1 2 tt

pub overflow_add-t3 : goal.overflow_add-t3
overflow_add-t3 c = sum_fits (each c) 1 3 tt

pub overflow_add-u0 : goal.overflow_add-u0
overflow_add-u0 c = sum_fits (each c) 2 0 tt

pub overflow_add-u1 : goal.overflow_add-u1
overflow_add-u1 c = sum_fits (each c) 2 1 tt

pub overflow_add-u2 : goal.overflow_add-u2
overflow_add-u2 c = sum_fits (each c) 2 2 tt

pub overflow_add-v0 : goal.overflow_add-v0
overflow_add-v0 c = sum_fits (each c) 3 0 tt

pub overflow_add-v1 : goal.overflow_add-v1
overflow_add-v1 c = sum_fits (each c) 3 1 tt

pub overflow_mul-result : goal.overflow_mul-result
overflow_mul-result c = times_fits (each c) 32 0 tt tt

pub overflow_mul-result-2 : goal.overflow_mul-result-2
overflow_mul-result-2 c = times_fits (each c) 16 1 tt tt

pub overflow_mul-result-3 : goal.overflow_mul-result-3
overflow_mul-result-3 c = times_fits (each c) 8 2 tt tt

pub overflow_mul-result-4 : goal.overflow_mul-result-4
overflow_mul-result-4 c = times_fits (each c) 4 3 tt tt

pub overflow_mul-result-5 : goal.overflow_mul-result-5
overflow_mul-result-5 c = times_fits (each c) 2 4 tt tt

pub overflow_add-result : goal.overflow_add-result
overflow_add-result c = sum_fits (each c) 4 0 tt
