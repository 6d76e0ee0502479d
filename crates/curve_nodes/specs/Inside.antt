-- Only the contracts of functions inside cite what stands here; nothing of it is part of a public promise.
use Rattle.std.specs.Prelude.{ℕ, ◌^◌, ◌≤◌}
use Rattle.setting.specs.Setting.{most_degree}
use Rattle.curve_halves.specs.Halves.{padded}
use Rattle.curve_halves.specs.Sizes.{Each}
use Rattle.curve_onward.specs.Onward.{onward}
use Rattle.curve_nodes.specs.declared.Curve.{Curve}

-- a curve that 64 bits have room to halve
pub record Halvable (c : Curve) : Type 0 where
  pub least : 1 ≤ c.degree
  pub most : c.degree ≤ most_degree
  pub x : Each (2 ^ 44) c.x
  pub y : Each (2 ^ 44) c.y

-- the curve carried on past its end, over a stretch of parameters 2^k times as long
unfoldable pub onward_of : ℕ → Curve → Curve
onward_of k c = record {
  degree = c.degree;
  x = padded (onward c.degree k c.x);
  y = padded (onward c.degree k c.y);
}
