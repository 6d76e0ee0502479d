-- The records of the leaves of a curve of degree 1 to 3. The loop's invariant: the walk stands at this part of the curve, and the list holds the
-- records of the leaves that it passed. The measure is the part's rank.
use mathlib.Core.Path.{sym, ◌∙◌}
use Prim.Native.Nat.{◌^◌, ◌<◌}
use native.Mathlib.Omega.{arith}
use mir.Facts.{to_z-of_z}
use Rattle.setting.specs.Setting.{deepest}
use Rattle.setting.proofs.Pieces.{record_length_is}
use Rattle.walk_curve.proofs.Parts.{part_node, part_degree, part_low}
use Rattle.walk_curve.proofs.Walks.{left_falls, after_falls}
use Rattle.walk_curve.proofs.Testing.{Tells, square_fits, verdict_asks, boxes_ask, tested}
use Rattle.band_passes.proofs.Recording.{recorded_start, recorded_length, recorded_room, recorded_halves, recorded_left}
use Rattle.band_passes.proofs.Recording.{recorded_kept, recorded_after, recorded_done}
use Rattle.band_passes.proofs.leaf_writing.write_low.Goals as goal
use Rattle.band_passes.proofs.leaf_writing.write_low.Goals.{Else-met, Joined-verdict_of}

pub loop-met-init : goal.loop-met-init
loop-met-init c = rw (to_z-of_z c.ranges.t) (recorded_start c.requires.1 c.requires.3)

-- whether the node is a leaf, as the verdict or the boxes told it
met : (c : Joined-verdict_of) → Tells c.loop-met.invariant.walk c.match-verdict_of.met
met c =
    tested c.loop-met.invariant.walk c.depth-depth.ensures c.verdict_of.ensures c.match-verdict_of.branch-raw
    (λ w. (w.in-Narrow.is, w.met-is)) (λ w. (w.in-Wide.is, w.met-is)) (λ w. w.met-is ∙ w.boxes_meet-met.ensures)

-- ---- a leaf, and its record
pub put_record-requires : goal.put_record-requires
put_record-requires c =
    let p = c.loop-met.invariant.walk.of in
    let h = c.requires in
    let q = part_low p h.4 in
    (recorded_room c.loop-met.invariant, h.2, part_node p, p.some, h.0, q.0, q.1)

pub overflow_add-place : goal.overflow_add-place
overflow_add-place c = let r = c.loop-met.invariant in omega (arith, recorded_room r, recorded_length r)

pub after_low-part-requires : goal.after_low-part-requires
after_low-part-requires c =
    let p = c.loop-met.invariant.walk.of in
    ((_, p), rw (part_degree p) c.requires.4)

pub shape_of-records-then-part-eq1 : goal.shape_of-records-then-part-eq1
shape_of-records-then-part-eq1 c =
    recorded_kept c.loop-met.invariant c.put_record.ensures

pub returns-then-part-eq1 : goal.returns-then-part-eq1
returns-then-part-eq1 c =
    let both = rw (to_z-of_z c.ranges.t) at
    (recorded_done c.loop-met.invariant c.put_record.ensures (sym (met (goal.at.returns-then-part-eq1 c).Joined-verdict_of) ∙ c.if-met.true) (record_length_is c.args.pieces.m)
    c.after_low-part.ensures c.if-part-eq1.true) in
    record { value = both.0; records_after = both.1 }

pub loop-met-smaller-else-part-eq1 : goal.loop-met-smaller-else-part-eq1
loop-met-smaller-else-part-eq1 c =
    after_falls c.loop-met.invariant.walk c.after_low-part.ensures c.if-part-eq1.false

pub loop-met-preserved-else-part-eq1 : goal.loop-met-preserved-else-part-eq1
loop-met-preserved-else-part-eq1 c =
    recorded_after c.loop-met.invariant c.put_record.ensures (sym (met (goal.at.loop-met-preserved-else-part-eq1 c).Joined-verdict_of) ∙ c.if-met.true) (record_length_is c.args.pieces.m)
    c.after_low-part.ensures c.if-part-eq1.false

-- ---- a node that does not pass: it has halves
halved : (c : Else-met)
    → c.loop-met.part.node < 2 ^ deepest c.args.curve.degree
halved c =
    recorded_halves c.loop-met.invariant (sym (met c.before) ∙ c.if-met.false)

pub left_low-part-requires : goal.left_low-part-requires
left_low-part-requires c =
    let p = c.loop-met.invariant.walk.of in
    ((_, p), rw (part_degree p) (halved c), rw (part_degree p) c.requires.4)

pub loop-met-smaller : goal.loop-met-smaller
loop-met-smaller c = rw c.left_low-part.ensures (left_falls c.loop-met.invariant.walk (halved (goal.at.loop-met-smaller c).Else-met))

pub loop-met-preserved : goal.loop-met-preserved
loop-met-preserved c =
    rw c.left_low-part.ensures (recorded_left c.loop-met.invariant (sym (met (goal.at.loop-met-preserved c).Joined-verdict_of) ∙ c.if-met.false))

pub overflow_mul-record_length : goal.overflow_mul-record_length
overflow_mul-record_length c = omega (arith, c.requires.0.has.most)

pub overflow_add-record_length : goal.overflow_add-record_length
overflow_add-record_length c = omega (arith, c.requires.0.has.most)

pub depth-depth-requires : goal.depth-depth-requires
depth-depth-requires c = c.loop-met.invariant.walk.of.some

pub verdict_of-requires : goal.verdict_of-requires
verdict_of-requires c = verdict_asks c.loop-met.invariant.walk c.depth-depth.ensures c.requires.0 c.requires.4

pub overflow_mul-t : goal.overflow_mul-t
overflow_mul-t c = square_fits (rw c.in-Open.is at c.verdict_of.ensures)

pub boxes_meet-met-requires : goal.boxes_meet-met-requires
boxes_meet-met-requires c = boxes_ask c.loop-met.invariant.walk c.depth-depth.ensures
    c.requires.0 c.requires.4 c.verdict_of.ensures c.in-Open.is
