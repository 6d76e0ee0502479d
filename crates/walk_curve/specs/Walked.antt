-- The test of a node, and where the walk of a curve ends at T (document 01, "Enclosure rows").
use Rattle.std.specs.Prelude.{Bool, List, ℕ, ℤ}
use Rattle.setting.specs.Setting.{Setting, deepest}
use Rattle.curve_nodes.specs.declared.Curve.{Curve}
use Rattle.curve_nodes.specs.Nodes.{depth, node_curve}
use Rattle.bound_node.specs.Boxes.{meets}
use Rattle.walk_tree.specs.Tree.{ends}

-- node n of curve c meets T
abbrev pub node_meets : Setting → ℤ → Curve → ℕ → Bool
node_meets σ T c n = meets σ T (depth n) (node_curve c n)

-- where the walk of curve c ends at T
abbrev pub ends_of : Setting → ℤ → Curve → List ℕ
ends_of σ T c = ends (node_meets σ T c) (deepest c.degree) 1
