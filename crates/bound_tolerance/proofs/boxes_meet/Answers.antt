-- The test of a node by its boxes. The loop's invariant: no box before i is too long.
use mathlib.Core.Path.{◌∙◌}
use Prim.Native.Nat.{◌*◌}
use native.Mathlib.Omega.{arith}
use mir.Syntax.{w64}
use mir.Facts.{to_z-of_z}
use Rattle.integers.proofs.Ranges.{stored}
use Rattle.bound_coordinate.proofs.Coordinates.{shift_small}
use Rattle.bound_coordinate.proofs.Chosen.{computable}
use Rattle.bound_pieces.specs.Inside.{setting_of, across_by}
use Rattle.bound_pieces.proofs.Boxes.{boundable_x, boundable_y}
use Rattle.bound_pieces.proofs.PiecesLaws.{divisor_less, divisor_few, scaled}
use Rattle.bound_tolerance.proofs.ToleranceLaws.{passed_none, passed_next, Diagonals, box_fails, boxes_pass, across_is}
use Rattle.bound_tolerance.proofs.boxes_meet.Goals as goal
use Rattle.bound_tolerance.proofs.boxes_meet.Goals.{After-terms_of-y}

pub overflow_mul-shift : goal.overflow_mul-shift
overflow_mul-shift c = let p = c.requires in omega (arith, shift_small p.2 p.3)

pub terms_of-x-requires : goal.terms_of-x-requires
terms_of-x-requires c = let p = c.requires in (boundable_x p.1 p.2 p.3, p.0.has.most)

pub terms_of-y-requires : goal.terms_of-y-requires
terms_of-y-requires c = let p = c.requires in (boundable_y p.1 p.2 p.3, p.0.has.most)

pub is_wide-requires : goal.is_wide-requires
is_wide-requires c =
    let p = c.requires in
    let r = p.0 in
    let m = c.args.pieces.m in
    let less = divisor_less r.has r.is in
    let few = divisor_few r.has r.is in
    let whole = scaled r.has r.is in (
      record {
        m = m;
        computable = rw c.terms_of-x.ensures (computable r.has less few r.copied p.2 p.3 p.1.x whole);
        point = omega arith;
      },
      record {
        m = m;
        computable = rw c.terms_of-y.ensures (computable r.has less few r.copied p.2 p.3 p.1.y whole);
        point = omega arith;
      },
    )

-- the boxes as the loop finds them
boxes : (y : After-terms_of-y) → let a = y.args in
    Diagonals (setting_of a.pieces) a.depth a.curve a.t
    (across_by a.pieces.divisor (a.curve.degree * a.depth) a.rows.now y.terms_of-x.result y.terms_of-y.result)
    (stored w64 a.square)
boxes y =
    record {
      each = across_is y.requires.0 y.requires.1 y.requires.2 y.terms_of-x.ensures y.terms_of-y.ensures;
      square = to_z-of_z y.ranges.square ∙ y.requires.4;
    }

pub returns-then-is_wide : goal.returns-then-is_wide
returns-then-is_wide c =
    box_fails (boxes (goal.at.returns-then-is_wide c).After-terms_of-y) c.loop-i.i (omega arith) c.is_wide.ensures c.if-is_wide.true

pub returns : goal.returns
returns c = boxes_pass (boxes (goal.at.returns c).After-terms_of-y) c.loop-i.invariant (omega arith)

pub loop-i-init : goal.loop-i-init
loop-i-init c = passed_none

pub overflow_add-i-end : goal.overflow_add-i-end
overflow_add-i-end c = omega (arith, c.requires.0.has.most)

pub loop-i-preserved : goal.loop-i-preserved
loop-i-preserved c = passed_next c.loop-i.invariant (omega arith) c.is_wide.ensures c.if-is_wide.false
