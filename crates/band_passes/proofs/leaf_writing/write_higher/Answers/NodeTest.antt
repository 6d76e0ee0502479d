-- The test of a node, whichever of the four told it: a node at the last depth is a leaf, since every end is.
use mathlib.Core.Path.{sym, ◌∙◌, ap}
use mathlib.Core.Logic.{⊎_elim}
use Rattle.setting.proofs.Depths.{deepest_high}
use Rattle.bound_node.specs.Boxes.{meets}
use Rattle.walk_curve.proofs.Parts.{part_meets, part_narrow, part_wide}
use Rattle.walk_curve.proofs.Testing.{Tells}
use Rattle.band_passes.proofs.Recording.{recorded_last}
use Rattle.band_passes.proofs.leaf_writing.write_higher.Goals.{Joined-node-ge16}

pub met : (c : Joined-node-ge16) → Tells c.loop-met.invariant.walk c.if-node-ge16.met
met c =
    let p = c.loop-met.invariant.walk.of in
    let e = c.depth-depth.ensures in
    ⊎_elim
    (λ w. w.met-is ∙ sym (recorded_last c.loop-met.invariant (rw (deepest_high _ c.requires.4) w.if-node-ge16.true)))
    (⊎_elim
    (λ w. part_narrow p _ _ e w.verdict_of.ensures w.in-Narrow.is w.met-is)
    (⊎_elim
    (λ w. part_wide p _ _ e w.verdict_of.ensures w.in-Wide.is w.met-is)
    (λ w. part_meets p _ _ e (w.met-is ∙ w.boxes_meet.ensures ∙ ap (meets _ _ _) w.same.ensures))))
    c.if-node-ge16.branch-raw
