-- The size of the largest second difference, by the degree.
use mathlib.Core.Path.{◌≡◌}
use native.Mathlib.Omega.{arith}
use Rattle.bound_tolerance.proofs.SpreadLaws.{size_is}
use Rattle.band_room.proofs.Bends.{values_x, values_y, difference_x, difference_y, line_bend, quadratic_bend, cubic_bend}
use Rattle.band_room.proofs.largest_size.Goals as goal

pub returns-then-degree-lt2 : goal.returns-then-degree-lt2
returns-then-degree-lt2 c =
    let one : c.args.curve.degree ≡ 1 = omega (arith, c.requires.0.least, c.if-degree-lt2.true) in
    (line_bend c.args.curve 0 one, omega arith)

pub difference_at-requires : goal.difference_at-requires
difference_at-requires c = (values_x c.requires.0, omega arith)

pub difference_at-requires-2 : goal.difference_at-requires-2
difference_at-requires-2 c = (values_y c.requires.0, omega arith)

pub returns-then-degree-lt3 : goal.returns-then-degree-lt3
returns-then-degree-lt3 c =
    let two : c.args.curve.degree ≡ 2 = omega (arith, c.if-degree-lt2.false, c.if-degree-lt3.true) in
    let ix = size_is c.difference_at.ensures c.size.ensures.0 in
    let iy = size_is c.difference_at-2.ensures c.size-2.ensures.0 in (
      quadratic_bend c.args.curve c.max-first.result ix iy two c.max-first.ensures,
      omega (arith, ix, iy, c.max-first.ensures, difference_x c.requires.0 0, difference_y c.requires.0 0),
    )

pub difference_at-requires-3 : goal.difference_at-requires-3
difference_at-requires-3 c = (values_x c.requires.0, omega arith)

pub difference_at-requires-4 : goal.difference_at-requires-4
difference_at-requires-4 c = (values_y c.requires.0, omega arith)

pub returns : goal.returns
returns c =
    let three : c.args.curve.degree ≡ 3 = omega (arith, c.requires.1, c.if-degree-lt3.false) in
    let ix = size_is c.difference_at.ensures c.size.ensures.0 in
    let iy = size_is c.difference_at-2.ensures c.size-2.ensures.0 in
    let iu = size_is c.difference_at-3.ensures c.size-3.ensures.0 in
    let iv = size_is c.difference_at-4.ensures c.size-4.ensures.0 in (
      cubic_bend c.args.curve c.max.result ix iy iu iv three c.max-first.ensures c.max-second.ensures c.max.ensures,
      omega (
        arith,
        ix,
        iy,
        iu,
        iv,
        c.max-first.ensures,
        c.max-second.ensures,
        c.max.ensures,
        difference_x c.requires.0 0,
        difference_y c.requires.0 0,
        difference_x c.requires.0 1,
        difference_y c.requires.0 1,
      ),
    )
