-- The walk of a curve of degree 1 to 3. The loop's invariant: the walk stands at this part of the curve, with as many leaves passed as were
-- counted. The measure is the part's rank.
use mathlib.Core.Path.{sym, ◌∙◌}
use Prim.Native.Nat.{ℕ, ◌^◌, ◌<◌, ◌≤◌}
use native.Mathlib.Omega.{arith}
use mir.Facts.{to_z-of_z}
use Rattle.setting.specs.Setting.{deepest}
use Rattle.setting.proofs.Depths.{deepest_low}
use Rattle.walk_curve.proofs.Parts.{part_degree}
use Rattle.walk_curve.proofs.Walks.{left_falls, after_falls}
use Rattle.walk_curve.proofs.Counts.{counted_start, counted_few, counted_left, counted_failed, counted_after, counted_done}
use Rattle.walk_curve.proofs.Testing.{Tells, square_fits, verdict_asks, boxes_ask, tested}
use Rattle.walk_curve.proofs.walk_low.Goals as goal
use Rattle.walk_curve.proofs.walk_low.Goals.{Joined-verdict_of}

-- the test of the node, whichever of the three told it
met : (c : Joined-verdict_of) → Tells c.loop-own.invariant.walk c.match-verdict_of.met
met c =
    tested c.loop-own.invariant.walk c.depth-depth.ensures c.verdict_of.ensures c.match-verdict_of.branch-raw
    (λ w. (w.in-Narrow.is, w.met-is)) (λ w. (w.in-Wide.is, w.met-is)) (λ w. w.met-is ∙ w.boxes_meet-met.ensures)

-- ---- a leaf, counted
pub overflow_add-leaves : goal.overflow_add-leaves
overflow_add-leaves c = omega (arith, counted_few c.loop-own.invariant)

pub after_low-part-requires : goal.after_low-part-requires
after_low-part-requires c =
    let p = c.loop-own.invariant.walk.of in
    ((_, p), rw (part_degree p) c.requires.2)

pub returns-then-part-eq1 : goal.returns-then-part-eq1
returns-then-part-eq1 c =
    rw (to_z-of_z c.ranges.t) at (sym (counted_done c.loop-own.invariant (sym (met (goal.at.returns-then-part-eq1 c).Joined-verdict_of) ∙ c.if-met.true) c.after_low-part.ensures c.if-part-eq1.true))

pub loop-own-smaller-else-part-eq1 : goal.loop-own-smaller-else-part-eq1
loop-own-smaller-else-part-eq1 c =
    after_falls c.loop-own.invariant.walk c.after_low-part.ensures c.if-part-eq1.false

pub loop-own-preserved-else-part-eq1 : goal.loop-own-preserved-else-part-eq1
loop-own-preserved-else-part-eq1 c =
    counted_after c.loop-own.invariant (sym (met (goal.at.loop-own-preserved-else-part-eq1 c).Joined-verdict_of) ∙ c.if-met.true) c.after_low-part.ensures c.if-part-eq1.false

-- ---- a node that does not pass
pub returns-then-node-ge256 : goal.returns-then-node-ge256
returns-then-node-ge256 c =
    rw (to_z-of_z c.ranges.t) at
    (sym (counted_failed c.loop-own.invariant (sym (met (goal.at.returns-then-node-ge256 c).Joined-verdict_of) ∙ c.if-met.false) (rw (deepest_low _ c.requires.2) c.if-node-ge256.true)))

-- it has halves
halved : (d n : ℕ) → d ≤ 3 → n < 256 → n < 2 ^ deepest d
halved d n h l = rw (deepest_low d h) l

pub left_low-part-requires : goal.left_low-part-requires
left_low-part-requires c =
    let p = c.loop-own.invariant.walk.of in
    ((_, p), rw (part_degree p) (halved _ _ c.requires.2 c.if-node-ge256.false), rw (part_degree p) c.requires.2)

pub loop-own-smaller : goal.loop-own-smaller
loop-own-smaller c = rw c.left_low-part.ensures (left_falls c.loop-own.invariant.walk (halved _ _ c.requires.2 c.if-node-ge256.false))

pub loop-own-preserved : goal.loop-own-preserved
loop-own-preserved c =
    rw c.left_low-part.ensures
    (counted_left c.loop-own.invariant (sym (met (goal.at.loop-own-preserved c).Joined-verdict_of) ∙ c.if-met.false) (halved _ _ c.requires.2 c.if-node-ge256.false))

pub loop-own-init : goal.loop-own-init
loop-own-init c = counted_start c.requires.1

pub depth-depth-requires : goal.depth-depth-requires
depth-depth-requires c = c.loop-own.invariant.walk.of.some

pub verdict_of-requires : goal.verdict_of-requires
verdict_of-requires c = verdict_asks c.loop-own.invariant.walk c.depth-depth.ensures c.requires.0 c.requires.2

pub overflow_mul-t : goal.overflow_mul-t
overflow_mul-t c = square_fits (rw c.in-Open.is at c.verdict_of.ensures)

pub boxes_meet-met-requires : goal.boxes_meet-met-requires
boxes_meet-met-requires c = boxes_ask c.loop-own.invariant.walk c.depth-depth.ensures
    c.requires.0 c.requires.2 c.verdict_of.ensures c.in-Open.is
