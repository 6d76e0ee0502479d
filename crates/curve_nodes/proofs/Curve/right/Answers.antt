-- The right half of a curve, coordinate by coordinate.
use Rattle.curve_nodes.specs.Halves.{right_half}
use Rattle.curve_nodes.proofs.Curve.right.Goals as goal

pub returns : goal.returns
unfolding right_half
returns c = simp (c.right_values-x.ensures, c.right_values-y.ensures)
