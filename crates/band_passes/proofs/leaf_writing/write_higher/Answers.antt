-- The records of the leaves of a curve of degree 4 or 5. The loop's invariant: the walk stands at this part of the curve, and the list holds the
-- records of the leaves that it passed. The measure is the part's rank. A node at the last depth is a leaf, since every end is.
mod NodeTest
use mathlib.Core.Path.{sym, ◌∙◌, ap}
use mathlib.Core.Logic.{⊎_elim}
use Prim.Native.Nat.{◌^◌, ◌≤◌, ◌<◌}
use native.Mathlib.Omega.{arith}
use mir.Facts.{to_z-of_z}
use Rattle.setting.specs.Setting.{deepest}
use Rattle.setting.proofs.Depths.{deepest_high}
use Rattle.setting.proofs.Pieces.{record_length_is, degree_takes}
use Rattle.bound_node.specs.Boxes.{meets}
use Rattle.walk_curve.proofs.Parts.{part_degree, part_high, part_halvable, part_meets, part_narrow, part_wide}
use Rattle.walk_curve.proofs.Walks.{left_falls, after_falls}
use Rattle.walk_curve.proofs.Testing.{Tells, higher_verdict_asks, higher_boxes_ask}
use Rattle.band_passes.proofs.Recording.{recorded_start, recorded_length, recorded_room, recorded_halves, recorded_last}
use Rattle.band_passes.proofs.Recording.{recorded_left, recorded_kept, recorded_after, recorded_done}
use Rattle.band_passes.proofs.leaf_writing.write_higher.Answers.NodeTest.{met}
use Rattle.band_passes.proofs.leaf_writing.write_higher.Goals as goal
use Rattle.band_passes.proofs.leaf_writing.write_higher.Goals.{Else-met, Start}

-- there are pieces enough
enough : (c : Start) → 3 ≤ c.args.pieces.m
enough c = (degree_takes c.args.curve.degree c.args.pieces.m).0 c.requires.1.suits.takes c.requires.4

pub loop-met-init : goal.loop-met-init
loop-met-init c = rw (to_z-of_z c.ranges.t) (recorded_start c.requires.1 c.requires.3)

-- ---- the test of the node
pub verdict_of-requires : goal.verdict_of-requires
verdict_of-requires c =
    let h = c.requires in
    higher_verdict_asks c.loop-met.invariant.walk c.depth-depth.ensures h.0 (enough (goal.at.verdict_of-requires c).Start) h.4 (h.1.suits.units h.4)

pub same-requires : goal.same-requires
same-requires c = part_halvable c.loop-met.invariant.walk.of

pub boxes_meet-requires : goal.boxes_meet-requires
boxes_meet-requires c =
    let h = c.requires in
    higher_boxes_ask c.loop-met.invariant.walk c.depth-depth.ensures h.0 (enough (goal.at.boxes_meet-requires c).Start) h.4 (h.1.suits.units h.4) c.verdict_of.ensures
    c.in-Open.is c.same.ensures

-- ---- a leaf
pub put_record_higher-requires : goal.put_record_higher-requires
put_record_higher-requires c =
    let p = c.loop-met.invariant.walk.of in
    let h = c.requires in
    let q = part_high p h.4 in
    (recorded_room c.loop-met.invariant, h.2, rw (deepest_high _ h.4) at p.deep, p.some, h.0, enough (goal.at.put_record_higher-requires c).Start, q.0, q.1, h.1.suits.units h.4)

pub overflow_add-place : goal.overflow_add-place
overflow_add-place c = let r = c.loop-met.invariant in omega (arith, recorded_room r, recorded_length r)

pub after-part-requires : goal.after-part-requires
after-part-requires c = (_, c.loop-met.invariant.walk.of)

pub shape_of-records-then-part-eq1 : goal.shape_of-records-then-part-eq1
shape_of-records-then-part-eq1 c =
    recorded_kept c.loop-met.invariant c.put_record_higher.ensures

pub returns-then-part-eq1 : goal.returns-then-part-eq1
returns-then-part-eq1 c =
    let both = rw (to_z-of_z c.ranges.t) at
    (recorded_done c.loop-met.invariant c.put_record_higher.ensures (sym (met c.before.before.before.before.before.before.before) ∙ c.if-met.true)
    (record_length_is c.args.pieces.m) c.after-part.ensures c.if-part-eq1.true) in
    record { value = both.0; records_after = both.1 }

pub loop-met-smaller-else-part-eq1 : goal.loop-met-smaller-else-part-eq1
loop-met-smaller-else-part-eq1 c =
    after_falls c.loop-met.invariant.walk c.after-part.ensures c.if-part-eq1.false

pub loop-met-preserved-else-part-eq1 : goal.loop-met-preserved-else-part-eq1
loop-met-preserved-else-part-eq1 c =
    recorded_after c.loop-met.invariant c.put_record_higher.ensures (sym (met c.before.before.before.before.before.before.before) ∙ c.if-met.true)
    (record_length_is c.args.pieces.m) c.after-part.ensures c.if-part-eq1.false

-- ---- a node that does not pass: it has halves
halved : (c : Else-met)
    → c.loop-met.part.node < 2 ^ deepest c.args.curve.degree
halved c =
    recorded_halves c.loop-met.invariant (sym (met c.before) ∙ c.if-met.false)

pub left-part-requires : goal.left-part-requires
left-part-requires c = let p = c.loop-met.invariant.walk.of in ((_, p), rw (part_degree p) (halved c))

pub loop-met-smaller : goal.loop-met-smaller
loop-met-smaller c = rw c.left-part.ensures (left_falls c.loop-met.invariant.walk (halved (goal.at.loop-met-smaller c).Else-met))

pub loop-met-preserved : goal.loop-met-preserved
loop-met-preserved c =
    rw c.left-part.ensures (recorded_left c.loop-met.invariant (sym (met c.before.before) ∙ c.if-met.false))

pub overflow_mul-record_length : goal.overflow_mul-record_length
overflow_mul-record_length c = omega (arith, c.requires.0.has.most)

pub overflow_add-record_length : goal.overflow_add-record_length
overflow_add-record_length c = omega (arith, c.requires.0.has.most)

pub depth-depth-requires : goal.depth-depth-requires
depth-depth-requires c = c.loop-met.invariant.walk.of.some
