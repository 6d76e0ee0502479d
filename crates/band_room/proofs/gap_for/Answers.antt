-- G of a degree, so multiplied: that of the corner at degree 3.
use mathlib.Core.Path.{◌≡◌}
use native.Mathlib.Nat.{mul-add, mul-zero, mul-le-mul, le_refl}
use native.Mathlib.Omega.{arith}
use Rattle.bound_pieces.specs.Inside.{times, near_gap, far_gap}
use Rattle.bound_tolerance.proofs.SpreadLaws.{single_is, near_is, far_is, single_under, near_under, far_under}
use Rattle.band_room.proofs.Bends.{line_gap, corner_gap}
use Rattle.band_room.proofs.gap_for.Goals as goal

pub returns-then-degree-lt2 : goal.returns-then-degree-lt2
returns-then-degree-lt2 c =
    let one : c.args.degree ≡ 1 = omega (arith, c.requires.2, c.if-degree-lt2.true) in
    (rw (one, line_gap c.args.pieces.m c.requires.0, mul-zero) (omega arith), omega arith)

pub returns-then-degree-lt3 : goal.returns-then-degree-lt3
returns-then-degree-lt3 c =
    let two : c.args.degree ≡ 2 = omega (arith, c.if-degree-lt2.false, c.if-degree-lt3.true) in
    (rw two (omega (arith, single_is c.requires.0 c.requires.1)), omega (arith, single_under c.requires.0 c.requires.1))

pub overflow_add-result : goal.overflow_add-result
overflow_add-result c = let p = c.requires in omega (arith, near_under p.0 p.1, far_under p.0 p.1)

pub returns : goal.returns
returns c =
    let p = c.requires in
    let b = c.args.pieces.sixths in
    let m = c.args.pieces.m in
    let three : c.args.degree ≡ 3 = omega (arith, p.3, c.if-degree-lt3.false) in
    let under = mul-le-mul (le_refl (times b)) (corner_gap m) in (
      rw three (omega (arith, near_is p.0 p.1, far_is p.0 p.1, under, mul-add (times b) (near_gap m) (far_gap m))),
      omega (arith, near_under p.0 p.1, far_under p.0 p.1),
    )
