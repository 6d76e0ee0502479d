-- The walk of a curve of degree 4 or 5. The loop's invariant: the walk stands at this part of the curve, with as many leaves passed as were
-- counted. The measure is the part's rank.
use mathlib.Core.Path.{sym, ◌∙◌, ap}
use Prim.Native.Nat.{ℕ, ◌^◌, ◌<◌}
use native.Mathlib.Omega.{arith}
use mir.Facts.{to_z-of_z}
use Rattle.setting.specs.Setting.{deepest}
use Rattle.setting.proofs.Depths.{deepest_high}
use Rattle.bound_node.specs.Boxes.{meets}
use Rattle.walk_curve.proofs.Parts.{part_degree, part_halvable}
use Rattle.walk_curve.proofs.Walks.{left_falls, after_falls}
use Rattle.walk_curve.proofs.Counts.{counted_start, counted_few, counted_left, counted_failed, counted_after, counted_done}
use Rattle.walk_curve.proofs.Testing.{Tells, higher_verdict_asks, higher_boxes_ask, tested}
use Rattle.walk_curve.proofs.walk_higher.Goals as goal
use Rattle.walk_curve.proofs.walk_higher.Goals.{Joined-verdict_of}

-- ---- the test of the node
pub verdict_of-requires : goal.verdict_of-requires
verdict_of-requires c =
    let h = c.requires in
    higher_verdict_asks c.loop-met.invariant.walk c.depth-depth.ensures h.0 h.3 h.2 h.4

pub same-requires : goal.same-requires
same-requires c = part_halvable c.loop-met.invariant.walk.of

pub boxes_meet-met-requires : goal.boxes_meet-met-requires
boxes_meet-met-requires c =
    let h = c.requires in
    higher_boxes_ask c.loop-met.invariant.walk c.depth-depth.ensures h.0 h.3 h.2 h.4 c.verdict_of.ensures
    c.in-Open.is c.same.ensures

met : (c : Joined-verdict_of) → Tells c.loop-met.invariant.walk c.match-verdict_of.met
met c =
    tested c.loop-met.invariant.walk c.depth-depth.ensures c.verdict_of.ensures c.match-verdict_of.branch-raw
    (λ w. (w.in-Narrow.is, w.met-is)) (λ w. (w.in-Wide.is, w.met-is)) (λ w. w.met-is ∙ w.boxes_meet-met.ensures ∙ ap (meets _ _ _) w.same.ensures)

-- ---- a leaf
pub overflow_add-leaves : goal.overflow_add-leaves
overflow_add-leaves c = omega (arith, counted_few c.loop-met.invariant)

pub after-part-requires : goal.after-part-requires
after-part-requires c = (_, c.loop-met.invariant.walk.of)

pub returns-then-part-eq1 : goal.returns-then-part-eq1
returns-then-part-eq1 c =
    rw (to_z-of_z c.ranges.t) at (sym (counted_done c.loop-met.invariant (sym (met (goal.at.returns-then-part-eq1 c).Joined-verdict_of) ∙ c.if-met.true) c.after-part.ensures c.if-part-eq1.true))

pub loop-met-smaller-else-part-eq1 : goal.loop-met-smaller-else-part-eq1
loop-met-smaller-else-part-eq1 c =
    after_falls c.loop-met.invariant.walk c.after-part.ensures c.if-part-eq1.false

pub loop-met-preserved-else-part-eq1 : goal.loop-met-preserved-else-part-eq1
loop-met-preserved-else-part-eq1 c =
    counted_after c.loop-met.invariant (sym (met (goal.at.loop-met-preserved-else-part-eq1 c).Joined-verdict_of) ∙ c.if-met.true) c.after-part.ensures c.if-part-eq1.false

-- ---- a node that does not pass
pub returns-then-node-ge16 : goal.returns-then-node-ge16
returns-then-node-ge16 c =
    rw (to_z-of_z c.ranges.t) at
    (sym (counted_failed c.loop-met.invariant (sym (met (goal.at.returns-then-node-ge16 c).Joined-verdict_of) ∙ c.if-met.false) (rw (deepest_high _ c.requires.2) c.if-node-ge16.true)))

-- it has halves
halved : (d n : ℕ) → 3 < d → n < 16 → n < 2 ^ deepest d
halved d n h l = rw (deepest_high d h) l

pub left-part-requires : goal.left-part-requires
left-part-requires c = let p = c.loop-met.invariant.walk.of in ((_, p), rw (part_degree p) (halved _ _ c.requires.2 c.if-node-ge16.false))

pub loop-met-smaller : goal.loop-met-smaller
loop-met-smaller c = rw c.left-part.ensures (left_falls c.loop-met.invariant.walk (halved _ _ c.requires.2 c.if-node-ge16.false))

pub loop-met-preserved : goal.loop-met-preserved
loop-met-preserved c =
    rw c.left-part.ensures
    (counted_left c.loop-met.invariant (sym (met (goal.at.loop-met-preserved c).Joined-verdict_of) ∙ c.if-met.false) (halved _ _ c.requires.2 c.if-node-ge16.false))

pub loop-met-init : goal.loop-met-init
loop-met-init c = counted_start c.requires.1

pub depth-depth-requires : goal.depth-depth-requires
depth-depth-requires c = c.loop-met.invariant.walk.of.some
