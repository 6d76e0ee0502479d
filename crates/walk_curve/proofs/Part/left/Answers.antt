-- The left half of a part.
use mathlib.Core.Path.{ap}
use native.Mathlib.Omega.{arith}
use Rattle.walk_curve.proofs.Parts.{part, part_node, part_halvable}
use Rattle.walk_curve.proofs.Part.left.Goals as goal

pub overflow_mul-node : goal.overflow_mul-node
overflow_mul-node c = omega (arith, part_node c.requires.0.1)

pub left-curve-requires : goal.left-curve-requires
left-curve-requires c = part_halvable c.requires.0.1

pub returns : goal.returns
returns c = ap (part _) c.left-curve.ensures
