-- The boxes at the break points of a curve. The loop's invariant: the boxes before i stand in their places.
use mathlib.Core.Path.{◌≡◌, refl, ◌∙◌, ap}
use mathlib.Core.List.{List}
use Prim.Native.Nat.{ℕ, suc, ◌*◌}
use native.Mathlib.Omega.{arith}
use lib.ListN.{length}
use lib.IntN.{ℤ}
use Rattle.setting.proofs.Depths.{deepest_low}
use Rattle.curve_nodes.specs.Inside.{Halvable}
use Rattle.curve_nodes.proofs.Sizes.{sized_halvable}
use Rattle.bound_coordinate.proofs.Coordinates.{shift_small}
use Rattle.bound_coordinate.proofs.Chosen.{computable}
use Rattle.bound_pieces.specs.Inside.{setting_of}
use Rattle.bound_pieces.proofs.PiecesLaws.{divisor_is, divisor_less, divisor_few, scaled}
use Rattle.band_records.specs.Inside.{box_by}
use Rattle.band_records.proofs.Writing.{kept, joined_to, joined_more, box_four, all_written, box_is}
use Rattle.band_records.proofs.put_low_boxes.Goals as goal
use Rattle.band_records.proofs.put_low_boxes.Goals.{At-loop-i, Start}

halvable : (s : Start) → Halvable s.args.curve
halvable s = let p = s.requires in sized_halvable (rw (deepest_low s.args.curve.degree p.3) p.4) p.2

pub overflow_mul-shift : goal.overflow_mul-shift
overflow_mul-shift c = let p = c.requires in omega (arith, shift_small p.3 p.4)

pub terms_of-x-requires : goal.terms_of-x-requires
terms_of-x-requires c =
    let p = c.requires in
    (record { least = p.2.least; most = p.3; values = (halvable (goal.at.terms_of-x-requires c).Start).x }, p.1.has.most)

pub terms_of-y-requires : goal.terms_of-y-requires
terms_of-y-requires c =
    let p = c.requires in
    (record { least = p.2.least; most = p.3; values = (halvable (goal.at.terms_of-y-requires c).Start).y }, p.1.has.most)

pub loop-i-init : goal.loop-i-init
loop-i-init c = refl

-- the boxes as they are computed
abbrev boxes : At-loop-i → ℕ → List ℤ
boxes l =
    let a = l.args in
    box_by a.pieces.divisor (a.curve.degree * a.depth) a.rows.now l.terms_of-x.result l.terms_of-y.result

same : (l : At-loop-i) → length l.loop-i.records ≡ length l.args.records.now
same l = let a = l.args in kept a.records.now a.at (joined_to l.loop-i.i (boxes l)) l.loop-i.invariant

pub put_box-requires : goal.put_box-requires
put_box-requires c =
    let p = c.requires in
    let r = p.1 in
    let m = c.args.pieces.m in
    let less = divisor_less r.has r.is in
    let few = divisor_few r.has r.is in
    let whole = scaled r.has r.is in (
      omega (arith, same (goal.at.put_box-requires c).At-loop-i),
      record {
        m = m;
        computable = rw c.terms_of-x.ensures (computable r.has less few r.copied p.3 p.4 p.2.x whole);
        point = omega arith;
      },
      record {
        m = m;
        computable = rw c.terms_of-y.ensures (computable r.has less few r.copied p.3 p.4 p.2.y whole);
        point = omega arith;
      },
    )

pub loop-i-preserved : goal.loop-i-preserved
loop-i-preserved c =
    let a = c.args in
    joined_more (boxes (goal.at.loop-i-preserved c).At-loop-i) (box_four _ _ _ _) a.records.now a.at c.loop-i.i c.loop-i.invariant c.put_box.ensures

pub shape_of-records : goal.shape_of-records
shape_of-records c = same (goal.at.shape_of-records c).At-loop-i

pub returns : goal.returns
returns c =
    let a = c.args in
    let p = c.requires in
    let σ = setting_of a.pieces in
    let e : c.loop-i.i ≡ suc a.pieces.m = omega arith in
    all_written σ a.depth a.curve
    (λ i hi. ap (λ (q : ℕ). box_by q (a.curve.degree * a.depth) a.rows.now c.terms_of-x.result c.terms_of-y.result i)
    (divisor_is p.1.has p.1.is)
    ∙ box_is σ p.1.has a.depth a.curve p.2 p.1.copied p.3 c.terms_of-x.ensures c.terms_of-y.ensures i hi)
    a.records.now a.at e c.loop-i.invariant

pub overflow_mul-place : goal.overflow_mul-place
overflow_mul-place c = omega arith

pub overflow_add-place : goal.overflow_add-place
overflow_add-place c = omega arith

pub overflow_add-i-end : goal.overflow_add-i-end
overflow_add-i-end c = omega arith
