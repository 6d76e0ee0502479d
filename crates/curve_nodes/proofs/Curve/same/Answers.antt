-- A copy of a curve, coordinate by coordinate, is that curve.
use Rattle.curve_nodes.proofs.Curve.same.Goals as goal

pub returns : goal.returns
returns c = simp (c.same_values-x.ensures, c.same_values-y.ensures)
