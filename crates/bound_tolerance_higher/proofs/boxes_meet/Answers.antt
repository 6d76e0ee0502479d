-- The test of a node of degree 4 or 5 by its boxes. The loop's invariant: no box before i is too long.
use Prim.Native.Nat.{◌*◌}
use native.Mathlib.Nat.{mul-le-mul}
use native.Mathlib.Omega.{arith}
use lib.IntN.{◌*ℤ◌}
use mir.Syntax.{w64}
use Rattle.integers.proofs.Ranges.{stored}
use Rattle.bound_coordinate.proofs.Chosen.{higher_computable}
use Rattle.bound_pieces.specs.Inside.{setting_of, higher_across_by}
use Rattle.bound_pieces.proofs.Boxes.{higher_boundable_x, higher_boundable_y}
use Rattle.bound_pieces.proofs.PiecesLaws.{scaled_alone}
use Rattle.bound_tolerance.proofs.ToleranceLaws.{passed_none, passed_next, Diagonals, box_fails, boxes_pass, higher_across_is}
use Rattle.bound_tolerance.proofs.ToleranceLaws.{square_fits, square_is}
use Rattle.bound_tolerance_higher.proofs.boxes_meet.Goals as goal
use Rattle.bound_tolerance_higher.proofs.boxes_meet.Goals.{After-higher_of-y}

pub overflow_mul-shift : goal.overflow_mul-shift
overflow_mul-shift c = let p = c.requires in omega (arith, mul-le-mul p.2.most p.4)

pub higher_of-x-requires : goal.higher_of-x-requires
higher_of-x-requires c = let p = c.requires in (higher_boundable_x p.2 p.3 p.4, p.0.has.most, mul-le-mul p.2.most p.4)

pub higher_of-y-requires : goal.higher_of-y-requires
higher_of-y-requires c = let p = c.requires in (higher_boundable_y p.2 p.3 p.4, p.0.has.most, mul-le-mul p.2.most p.4)

pub is_wide-requires : goal.is_wide-requires
is_wide-requires c =
    let p = c.requires in
    let r = p.0 in (
      rw c.higher_of-x.ensures (higher_computable r.has r.copied p.3 p.2.most p.4 p.2.x (scaled_alone r.has r.is p.6)),
      rw c.higher_of-y.ensures (higher_computable r.has r.copied p.3 p.2.most p.4 p.2.y (scaled_alone r.has r.is p.6)),
      omega arith,
    )

-- the boxes as the loop finds them, and the square of the tolerance
boxes : (y : After-higher_of-y) → let a = y.args in
    Diagonals (setting_of a.pieces) a.depth a.curve a.t
    (higher_across_by a.pieces.m (a.curve.degree * a.depth) a.rows.now y.higher_of-x.result y.higher_of-y.result)
    (stored w64 (stored w64 a.t *ℤ stored w64 a.t))
boxes y =
    let p = y.requires in
    record {
      each = higher_across_is p.0 p.2 p.3 p.1 p.6 y.higher_of-x.ensures y.higher_of-y.ensures;
      square = square_is p.5;
    }

pub overflow_mul-square : goal.overflow_mul-square
overflow_mul-square c = square_fits c.requires.5

pub loop-i-init : goal.loop-i-init
loop-i-init c = passed_none

pub returns-then-is_wide : goal.returns-then-is_wide
returns-then-is_wide c = box_fails (boxes (goal.at.returns-then-is_wide c).After-higher_of-y) c.loop-i.i (omega arith) c.is_wide.ensures c.if-is_wide.true

pub overflow_add-i-end : goal.overflow_add-i-end
overflow_add-i-end c = omega (arith, c.requires.0.has.most)

pub loop-i-preserved : goal.loop-i-preserved
loop-i-preserved c = passed_next c.loop-i.invariant (omega arith) c.is_wide.ensures c.if-is_wide.false

pub returns : goal.returns
returns c = boxes_pass (boxes (goal.at.returns c).After-higher_of-y) c.loop-i.invariant (omega arith)
