-- What the gaps tell of a node. Only the contracts of functions inside cite what stands here; nothing of it is part of
-- a public promise.
use Rattle.std.specs.Prelude.{◌≡◌, true, false, ℕ, ◌^◌, ℤ}
use Rattle.setting.specs.Setting.{Setting}
use Rattle.curve_nodes.specs.declared.Curve.{Curve}
use Rattle.bound_coordinate.specs.Inside.{Small}
use Rattle.bound_tolerance.specs.declared.Tested.{Tested}
use Rattle.bound_tolerance.specs.declared.Tested.TheVariants.{Narrow, Wide, Open}
use Rattle.bound_node.specs.Boxes.{meets}

-- what is told of a node at depth k is right; where nothing is told, no square of the tolerance wraps
abbrev pub VerdictRight : Setting → ℤ → ℕ → Curve → Tested → Type 0
VerdictRight σ T k c Narrow = meets σ T k c ≡ true
VerdictRight σ T k c Wide = meets σ T k c ≡ false
VerdictRight σ T k c Open = Small (2 ^ 27) T
