-- The left half of a curve of degree 1 to 3, coordinate by coordinate.
use Rattle.curve_nodes.specs.Halves.{left_half}
use Rattle.curve_nodes.proofs.Curve.left_low.Goals as goal

pub returns : goal.returns
unfolding left_half
returns c = simp (c.left_low-x.ensures, c.left_low-y.ensures)
