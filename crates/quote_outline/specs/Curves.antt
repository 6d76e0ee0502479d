-- What curves cost by their leaves (document 02, request 11). No contract cites this;
-- crates/quote_outline/proofs/Theorems.antt does.
use Rattle.std.specs.Prelude.{List, [], ◌∷◌, ℕ, ◌+◌, length, ℤ}
use Rattle.setting.specs.Setting.{Setting}
use Rattle.curve_nodes.specs.declared.Curve.{Curve}
use Rattle.walk_curve.specs.Walked.{ends_of}
use Rattle.quote_price.specs.Price.{price}

-- the sum over curves: each costs what its leaves at tolerance T cost
unfoldable pub curve_costs : Setting → ℤ → List Curve → ℕ
curve_costs σ T [] = 0
curve_costs σ T (c ∷ cs) = price (length (ends_of σ T c)) + curve_costs σ T cs
