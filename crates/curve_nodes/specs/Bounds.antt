-- How large control values get: what keeps 64-bit numbers from wrapping.
use Rattle.std.specs.Prelude.{ℕ, ◌*◌, ◌^◌, ◌≤◌}
use Rattle.setting.specs.Setting.{most_degree}
use Rattle.curve_halves.specs.Sizes.{Each}
use Rattle.curve_nodes.specs.declared.Curve.{Curve}

-- A curve at depth k, of degree 1 to 5, from control points within 2^20.
pub record Sized (k : ℕ) (c : Curve) : Type 0 where
  pub least : 1 ≤ c.degree
  pub most : c.degree ≤ most_degree
  pub x : Each (2 ^ 20 * 2 ^ (c.degree * k)) c.x
  pub y : Each (2 ^ 20 * 2 ^ (c.degree * k)) c.y
