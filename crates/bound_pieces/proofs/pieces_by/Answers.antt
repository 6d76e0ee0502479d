-- What goes with the number of pieces and the scale, from its gaps.
use Prim.Native.Nat.{◌-◌, ◌≤◌}
use native.Mathlib.Nat.{mul-le-mul}
use native.Mathlib.Omega.{arith}
use Rattle.bound_pieces.specs.Inside.{pieces_by}
use Rattle.bound_pieces.proofs.pieces_by.Goals as goal

pub overflow_mul-divisor : goal.overflow_mul-divisor
overflow_mul-divisor c =
    let p = c.requires in
    let u = c.unit_of.ensures in
    omega (arith, mul-le-mul p.1 u.2)

pub nonzero_div-result : goal.nonzero_div-result
nonzero_div-result c =
    let p = c.requires in
    let u = c.unit_of.ensures in
    omega (arith, mul-le-mul p.0 u.1)

pub overflow_mul-result : goal.overflow_mul-result
overflow_mul-result c = let p = c.requires in omega (arith, mul-le-mul c.times_of-times.ensures.1 p.3)

pub overflow_mul-result-2 : goal.overflow_mul-result-2
overflow_mul-result-2 c =
    let near : c.args.near ≤ 36000 = omega (arith, c.requires.2, c.requires.4) in
    omega (arith, mul-le-mul c.times_of-times.ensures.1 near)

pub overflow_mul-result-3 : goal.overflow_mul-result-3
overflow_mul-result-3 c =
    let far : c.args.both - c.args.near ≤ 36000 = omega (arith, c.requires.4) in
    omega (arith, mul-le-mul c.times_of-times.ensures.1 far)

pub overflow_mul-result-4 : goal.overflow_mul-result-4
overflow_mul-result-4 c =
    let less : c.args.both - c.args.near - c.args.other ≤ 36000 = omega (arith, c.requires.4) in
    omega (arith, mul-le-mul c.times_of-times.ensures.1 less)

pub returns : goal.returns
unfolding pieces_by
returns c = rw (c.unit_of.ensures.0, c.times_of-times.ensures.0)
