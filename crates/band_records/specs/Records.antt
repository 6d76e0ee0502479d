-- Leaf records (document 01): curve, node, then for each break point a box: x low, x high, y low, y high.
use Rattle.std.specs.Prelude.{List, [], ◌∷◌, ◌++◌, ℕ, zero, suc, ℤ, pos}
use Rattle.setting.specs.Setting.{Setting, break_points}
use Rattle.curve_nodes.specs.declared.Curve.{Curve}
use Rattle.curve_nodes.specs.Nodes.{depth, node_curve}
use Rattle.bound_node.specs.declared.node_boxes.WideBox.{WideBox}
use Rattle.bound_node.specs.Boxes.{box_at}
use Rattle.walk_curve.specs.Walked.{ends_of}

abbrev pub box_numbers : WideBox → List ℤ
box_numbers b = b.x_low ∷ b.x_high ∷ b.y_low ∷ b.y_high ∷ []

-- the boxes at the first n break points of a curve at depth k
abbrev pub boxes_to : Setting → ℕ → ℕ → Curve → List ℤ
boxes_to σ zero k c = []
boxes_to σ (suc n) k c = boxes_to σ n k c ++ box_numbers (box_at σ k c n)

abbrev pub node_numbers : ℕ → ℕ → List ℤ → List ℤ
node_numbers k n boxes = pos k ∷ pos n ∷ boxes

-- the numbers of node n of curve c, the curve's number being k
unfoldable pub record_of : Setting → ℕ → Curve → ℕ → List ℤ
record_of σ k c n = node_numbers k n (boxes_to σ (break_points σ) (depth n) (node_curve c n))

-- the records of some nodes of curve c
unfoldable pub records_of : Setting → ℕ → Curve → List ℕ → List ℤ
records_of σ k c [] = []
records_of σ k c (n ∷ ns) = record_of σ k c n ++ records_of σ k c ns

-- by curve, numbered from k on, then by parameter
unfoldable pub all_records : Setting → ℤ → ℕ → List Curve → List ℤ
all_records σ T k [] = []
all_records σ T k (c ∷ cs) = records_of σ k c (ends_of σ T c) ++ all_records σ T (suc k) cs
