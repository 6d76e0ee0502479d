-- The boxes of a node, and the test that it meets the tolerance (document 01, "Enclosure rows"; request 04).
use Rattle.std.specs.Prelude.{Bool, true, ◌&&◌, ℕ, zero, suc, ℤ, ◌+ℤ◌, ◌-ℤ◌}
use Rattle.std.specs.Int.Signed.{le_z}
use Rattle.setting.specs.Setting.{Setting, break_points}
use Rattle.integers.specs.Squares.{squared}
use Rattle.curve_nodes.specs.declared.Curve.{Curve}
use Rattle.bound_enclosure.specs.AtDepth.{low_of, high_of}
use Rattle.bound_node.specs.declared.node_boxes.WideBox.{WideBox}

-- the box at break point i of a curve at depth k: the point enclosure of J. Peters and X. Wu, "SLEVEs for planar spline
-- curves" (CAGD 21, 2004), section 4
unfoldable pub box_at : Setting → ℕ → Curve → ℕ → WideBox
box_at σ k c i = record {
  x_low = low_of σ c.degree k c.x i;
  x_high = high_of σ c.degree k c.x i;
  y_low = low_of σ c.degree k c.y i;
  y_high = high_of σ c.degree k c.y i;
}

-- width squared plus height squared is at most T squared: the diagonal is at most T
abbrev pub narrow : ℤ → WideBox → Bool
narrow T b = le_z (squared (b.x_high -ℤ b.x_low) +ℤ squared (b.y_high -ℤ b.y_low)) (squared T)

-- the first n boxes are all narrow
abbrev pub all_narrow : ℕ → ℤ → (ℕ → WideBox) → Bool
all_narrow zero T box = true
all_narrow (suc n) T box = all_narrow n T box && narrow T (box n)

-- a node at depth k meets T: at all break points, 0 to the number of pieces
unfoldable pub meets : Setting → ℤ → ℕ → Curve → Bool
meets σ T k c = all_narrow (break_points σ) T (box_at σ k c)
