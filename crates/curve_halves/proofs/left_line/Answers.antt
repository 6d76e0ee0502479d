-- The left half of one coordinate of a line: the sums are those of de Casteljau's triangle.
use Prim.Native.Nat.{◌^◌}
use Rattle.curve_halves.specs.Sizes.{Each}
use Rattle.curve_halves.proofs.Kept.{sum_fits, times_fits, left_are}
use Rattle.curve_halves.proofs.left_line.Goals as goal
use Rattle.curve_halves.proofs.left_line.Goals.{After-c1-1}

each : (c : After-c1-1) → Each (2 ^ 44) c.args.c
each c = c.requires

pub returns : goal.returns
returns c = left_are (each c) 1 tt

pub overflow_mul-result : goal.overflow_mul-result
overflow_mul-result c = times_fits (each c) 2 0 tt tt

pub overflow_add-result : goal.overflow_add-result
overflow_add-result c = sum_fits (each c) 0 0 tt
