-- Curve A of document 01 at T 44 and 43, by computation.
use mathlib.Core.Path.{◌≡◌, refl}
use mathlib.Core.Bool.{true, false}
use mathlib.Core.List.{[], ◌∷◌}
use lib.IntN.{pos, pow, one}
use Rattle.setting.specs.Setting.{standard}
use Rattle.integers.specs.Rounding.{floor, ceiling}
use Rattle.curve_nodes.specs.declared.Curve.{Curve}
use Rattle.curve_halves.specs.Halves.{triangle, left, right}
use Rattle.curve_nodes.specs.Halves.{left_half, right_half}
use Rattle.curve_nodes.specs.Nodes.{descend_in, descend, node_curve}
use Rattle.bound_rows.specs.Table.{table, rows_of}
use Rattle.bound_enclosure.specs.Bounds.{row_sum, high, low}
use Rattle.bound_node.specs.Boxes.{box_at, meets}

abbrev A : Curve
A = record { degree = 3; x = pos 0 ∷ pos 10 ∷ pos 20 ∷ pos 30 ∷ []; y = pos 0 ∷ pos 30 ∷ pos 30 ∷ pos 0 ∷ [] }

-- it meets 44, the width of its middle boxes, and no less
pub a_meets_44 : meets standard (pos 44) 0 A ≡ true
unfolding meets box_at table rows_of high low row_sum floor ceiling
a_meets_44 = refl

-- at 43 it is halved, for its middle boxes alone are too wide; both halves meet 43
pub a_too_wide_43 : meets standard (pos 43) 0 A ≡ false
unfolding meets box_at table rows_of high low row_sum floor ceiling
a_too_wide_43 = refl

pub halves_meet_43 : (meets standard (pos 43) 1 (node_curve A 2) ≡ true) × (meets standard (pos 43) 1 (node_curve A 3) ≡ true)
unfolding node_curve descend descend_in left_half right_half left right triangle pow one meets box_at table rows_of high low row_sum floor ceiling
halves_meet_43 = (refl, refl)

-- ---- request 04: with A's heights as widths too, 2 × 44² = 3872 is above 62² = 3844, and at most 63²
abbrev across : Curve
across = record { degree = 3; x = pos 0 ∷ pos 30 ∷ pos 30 ∷ pos 0 ∷ []; y = pos 0 ∷ pos 30 ∷ pos 30 ∷ pos 0 ∷ [] }

pub across_too_wide_62 : meets standard (pos 62) 0 across ≡ false
unfolding meets box_at table rows_of high low row_sum floor ceiling
across_too_wide_62 = refl

pub across_meets_63 : meets standard (pos 63) 0 across ≡ true
unfolding meets box_at table rows_of high low row_sum floor ceiling
across_meets_63 = refl
