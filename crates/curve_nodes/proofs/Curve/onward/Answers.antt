-- A curve carried on, coordinate by coordinate.
use Rattle.curve_nodes.specs.Inside.{onward_of}
use Rattle.curve_nodes.proofs.Curve.onward.Goals as goal

pub returns : goal.returns
unfolding onward_of
returns c = simp (c.onward_values-x.ensures, c.onward_values-y.ensures)
