-- A curve halved (document 01, "Halving"), and turned round: one coordinate like the other.
use Rattle.curve_halves.specs.Halves.{left, right, reversed, padded}
use Rattle.curve_nodes.specs.declared.Curve.{Curve}

unfoldable pub left_half : Curve → Curve
left_half c = record {
  degree = c.degree;
  x = padded (left c.degree c.x);
  y = padded (left c.degree c.y);
}

unfoldable pub right_half : Curve → Curve
right_half c = record {
  degree = c.degree;
  x = padded (right c.degree c.x);
  y = padded (right c.degree c.y);
}

-- the curve with its control points 0 to d in reverse order (document 02, request 02)
unfoldable pub reversed_of : Curve → Curve
reversed_of c = record {
  degree = c.degree;
  x = padded (reversed c.degree c.x);
  y = padded (reversed c.degree c.y);
}
