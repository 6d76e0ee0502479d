-- The left half of a part of degree 1 to 3.
use mathlib.Core.Path.{ap}
use native.Mathlib.Omega.{arith}
use Rattle.walk_curve.proofs.Parts.{part, part_node, part_halvable}
use Rattle.walk_curve.proofs.Part.left_low.Goals as goal

pub overflow_mul-node : goal.overflow_mul-node
overflow_mul-node c = omega (arith, part_node c.requires.0.1)

pub left_low-curve-requires : goal.left_low-curve-requires
left_low-curve-requires c = let h = c.requires in (part_halvable h.0.1, h.2)

pub returns : goal.returns
returns c = ap (part _) c.left_low-curve.ensures
