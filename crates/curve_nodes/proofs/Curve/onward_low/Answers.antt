-- A curve of degree 1 to 3 carried on, coordinate by coordinate.
use Rattle.curve_nodes.specs.Inside.{onward_of}
use Rattle.curve_nodes.proofs.Curve.onward_low.Goals as goal

pub returns : goal.returns
unfolding onward_of
returns c = simp (c.onward_low-x.ensures, c.onward_low-y.ensures)
