-- Two curves that meet (document 02, request 03). No contract cites this; the theorems of accepted outlines do.
use Rattle.std.specs.Prelude.{◌≡◌}
use Rattle.integers.specs.Entry.{entry}
use Rattle.curve_nodes.specs.declared.Curve.{Curve}

-- The first control point of d is the last one of c: that of its degree, and no padded one.
pub record CurvesMeet (c d : Curve) : Type 0 where
  pub in_x : entry c.x c.degree ≡ entry d.x 0
  pub in_y : entry c.y c.degree ≡ entry d.y 0
