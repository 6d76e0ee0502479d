-- The walk of a curve that compares. The loop's invariant: the walk stands at this part of the curve, and the numbers given agree so far with the
-- records of the leaves passed. The measure is the part's rank.
use mathlib.Core.Path.{sym, ◌∙◌}
use Prim.Native.Nat.{◌+◌, ◌^◌, ◌≤◌, ◌<◌}
use native.Mathlib.Omega.{arith}
use mir.Facts.{to_z-of_z}
use Rattle.setting.specs.Setting.{deepest}
use Rattle.setting.proofs.Pieces.{record_length_is}
use Rattle.walk_curve.proofs.Parts.{part_node, part_degree, part_sized, part_shallow}
use Rattle.walk_curve.proofs.Walks.{left_falls, after_falls}
use Rattle.band_comparing.proofs.SeeLaws.{seeing_start, seeing_less, seeing_few, seeing_left, seeing_failed, seeing_after, seeing_done}
use Rattle.band_comparing.proofs.see_curve.Goals as goal
use Rattle.band_comparing.proofs.see_curve.Goals.{At-loop-part, Else-last-node}

pub overflow_mul-record_length : goal.overflow_mul-record_length
overflow_mul-record_length c = omega (arith, c.requires.0.lent.has.most)

pub overflow_add-record_length : goal.overflow_add-record_length
overflow_add-record_length c = omega (arith, c.requires.0.lent.has.most)

pub loop-part-init : goal.loop-part-init
loop-part-init c = seeing_start c.requires.0.sized

-- there is room for all places
place_few : (l : At-loop-part) → l.loop-part.place ≤ l.args.at + 9728
place_few l = omega (arith, seeing_few l.loop-part.invariant, l.requires.0.lent.has.most)

-- ---- the node
pub try_node-requires : goal.try_node-requires
try_node-requires c =
    let p = c.requires.0 in
    let o = c.loop-part.invariant.walk.of in (
      record {
        there = omega (arith, seeing_less c.loop-part.invariant, p.there);
        place = omega (arith, place_few (goal.at.try_node-requires c).At-loop-part, p.place);
        lent = p.lent;
        sized = part_sized o;
        takes = rw (part_degree o) p.takes;
        shallow = part_shallow o;
        small = rw (to_z-of_z c.ranges.t) p.small;
      },
      record { curve = c.requires.1; below = part_node o; some = o.some },
    )

-- ---- a node that is too wide
pub returns-then-last-node : goal.returns-then-last-node
returns-then-last-node c =
    rw (to_z-of_z c.ranges.t) at
    (seeing_failed c.loop-part.invariant (sym c.in-None.is ∙ c.try_node.ensures) (rw (← c.last_of-last.ensures) c.if-last-node.true))

-- it has halves
halved : (c : Else-last-node)
    → c.loop-part.part.node < 2 ^ deepest c.args.curve.degree
halved c = rw (← c.last_of-last.ensures) c.if-last-node.false

pub left-part-requires : goal.left-part-requires
left-part-requires c = let p = c.loop-part.invariant.walk.of in ((_, p), rw (part_degree p) (halved c))

pub loop-part-smaller-in-None : goal.loop-part-smaller-in-None
loop-part-smaller-in-None c = rw c.left-part.ensures (left_falls c.loop-part.invariant.walk (halved (goal.at.loop-part-smaller-in-None c).Else-last-node))

pub loop-part-preserved-in-None : goal.loop-part-preserved-in-None
loop-part-preserved-in-None c =
    rw c.left-part.ensures (seeing_left c.loop-part.invariant (sym c.in-None.is ∙ c.try_node.ensures) (halved (goal.at.loop-part-preserved-in-None c).Else-last-node))

-- ---- a leaf
pub overflow_add-place : goal.overflow_add-place
overflow_add-place c =
    let p = c.requires.0 in
    omega (arith, place_few (goal.at.overflow_add-place c).At-loop-part, p.place, p.lent.has.most)

pub after-part-requires : goal.after-part-requires
after-part-requires c = (_, c.loop-part.invariant.walk.of)

pub returns-then-part-eq1 : goal.returns-then-part-eq1
returns-then-part-eq1 c =
    rw (to_z-of_z c.ranges.t) at
    (seeing_done c.loop-part.invariant (sym c.in-Some.is ∙ c.try_node.ensures) (record_length_is c.args.by.m) c.after-part.ensures
    c.if-part-eq1.true)

pub loop-part-smaller : goal.loop-part-smaller
loop-part-smaller c =
    after_falls c.loop-part.invariant.walk c.after-part.ensures c.if-part-eq1.false

pub loop-part-preserved : goal.loop-part-preserved
loop-part-preserved c =
    seeing_after c.loop-part.invariant (sym c.in-Some.is ∙ c.try_node.ensures) (record_length_is c.args.by.m) c.after-part.ensures
    c.if-part-eq1.false
