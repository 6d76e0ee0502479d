-- The part after a part of degree 1 to 3.
use mathlib.Core.Path.{◌≡◌, sym, ◌∙◌}
use native.Mathlib.Omega.{arith}
use Rattle.curve_nodes.specs.Nodes.{after}
use Rattle.walk_curve.proofs.Parts.{part_node, part_halvable, part_zeros, after_end, after_onward}
use Rattle.walk_curve.proofs.Part.after_low.Goals as goal
use Rattle.walk_curve.proofs.Part.after_low.Goals.{Else-node-eq1}

pub after-node-requires : goal.after-node-requires
after-node-requires c = let h = c.requires.0.1 in omega (arith, h.some, part_node h)

pub returns-then-node-eq1 : goal.returns-then-node-eq1
returns-then-node-eq1 c = let e = c.after-node.ensures in rw e (after_end c.requires.0 (sym e ∙ c.if-node-eq1.true))

pub overflow_add-next : goal.overflow_add-next
overflow_add-next c = omega (arith, part_node c.requires.0.1)

-- it was not the last
unfinished : (c : Else-node-eq1) → after c.args.self.node ≡ 1 → ⊥
unfinished c e = c.if-node-eq1.false (c.after-node.ensures ∙ e)

pub onward_low-curve-requires : goal.onward_low-curve-requires
onward_low-curve-requires c =
    let h = c.requires in
    (part_halvable h.0.1, h.1, part_zeros h.0 (unfinished c))

pub returns : goal.returns
returns c =
    rw (c.after-node.ensures, c.onward_low-curve.ensures) (after_onward c.requires.0 (unfinished (goal.at.returns c).Else-node-eq1))
