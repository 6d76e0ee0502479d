-- The left half of a curve, coordinate by coordinate.
use Rattle.curve_nodes.specs.Halves.{left_half}
use Rattle.curve_nodes.proofs.Curve.left.Goals as goal

pub returns : goal.returns
unfolding left_half
returns c = simp (c.left_values-x.ensures, c.left_values-y.ensures)
