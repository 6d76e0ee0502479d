-- The curve of four points: both coordinates, one number apart.
use Rattle.outline_splines.specs.Splines.{spline_at}
use Rattle.outline_splines.proofs.spline_at.Goals as goal

pub returns : goal.returns
unfolding spline_at
returns c = λ j. record { degree = 3; x = c.spline_values-x.ensures j; y = c.spline_values-y.ensures j }
