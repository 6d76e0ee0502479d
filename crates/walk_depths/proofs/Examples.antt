-- Depths of curves by computation: lines, both ends of the tolerance and of M, both greatest depths, and control values that are sixths.
use mathlib.Core.Path.{◌≡◌, refl}
use mathlib.Core.List.{List, [], ◌∷◌}
use mathlib.Core.Option.{none, some}
use Prim.Native.Nat.{ℕ, ◌-◌}
use lib.IntN.{ℤ, pos, neg_ℤ}
use Rattle.integers.specs.First.{first_bad}
use Rattle.setting.specs.Setting.{Setting, lists, splines}
use Rattle.curve_nodes.specs.declared.Curve.{Curve}
use Rattle.curve_nodes.specs.Differences.{largest_of, bend, largest}
use Rattle.bound_rows.specs.Table.{table, rows_of}
use Rattle.bound_rows.specs.Rule.{gap_of}
use Rattle.walk_depths.specs.Depth.{depth_of}

-- a curve along the y axis
abbrev upright : ℕ → List ℤ → Curve
upright d ys = record { degree = d; x = pos 0 ∷ pos 0 ∷ pos 0 ∷ pos 0 ∷ pos 0 ∷ pos 0 ∷ []; y = ys }

-- ---- a line: 2 × 20000² ≤ (10000 × T)² from T = 3 on, whatever the depth
abbrev line : Curve
line = upright 1 (pos 0 ∷ pos 1 ∷ pos 0 ∷ pos 0 ∷ pos 0 ∷ pos 0 ∷ [])

pub line_at_2 : depth_of (lists 3) (pos 2) line ≡ none
unfolding depth_of first_bad largest bend largest_of gap_of rows_of table
line_at_2 = refl

pub line_at_3 : depth_of (lists 3) (pos 3) line ≡ some 0
unfolding depth_of first_bad largest bend largest_of gap_of rows_of table
line_at_3 = refl

-- ---- y 0, 30, 30, 0: M is 30. Where control values are sixths, 0, 180, 180, 0 is the same curve.
abbrev arch : Curve
arch = upright 3 (pos 0 ∷ pos 30 ∷ pos 30 ∷ pos 0 ∷ pos 0 ∷ pos 0 ∷ [])

abbrev arch_of_180 : Curve
arch_of_180 = upright 3 (pos 0 ∷ pos 180 ∷ pos 180 ∷ pos 0 ∷ pos 0 ∷ pos 0 ∷ [])

pub arch_at_44 : depth_of (lists 3) (pos 44) arch ≡ some 1
unfolding depth_of first_bad largest bend largest_of gap_of rows_of table
arch_at_44 = refl

pub units_at_44 : depth_of (lists 3) (pos 44) arch_of_180 ≡ some 2
unfolding depth_of first_bad largest bend largest_of gap_of rows_of table
units_at_44 = refl

pub sixths_at_44 : depth_of (splines 3) (pos 44) arch_of_180 ≡ some 1
unfolding depth_of first_bad largest bend largest_of gap_of rows_of table
sixths_at_44 = refl

-- ---- the largest M, 4,194,304
abbrev most : ℤ
most = pos 1048576

abbrev jagged : ℕ → Curve
jagged d = upright d (most ∷ neg_ℤ most ∷ most ∷ neg_ℤ most ∷ most ∷ neg_ℤ most ∷ [])

pub jagged_at_most : depth_of (lists 1) (pos 1048576) (jagged 3) ≡ some 4
unfolding depth_of first_bad largest bend largest_of gap_of rows_of table
jagged_at_most = refl

-- degree 3 has depths to 8, degree 4 to 4: T is the least tolerance with a depth
abbrev DepthFrom : Setting → ℕ → Curve → ℕ → Type 0
DepthFrom σ T c j = (depth_of σ (pos T) c ≡ some j) × (depth_of σ (pos (T - 1)) c ≡ none)

pub jagged_from_21 : DepthFrom (lists 8) 21 (jagged 3) 8
unfolding depth_of first_bad largest bend largest_of gap_of rows_of table
jagged_from_21 = (refl, refl)

pub quartic_from_8864 : DepthFrom (lists 8) 8864 (jagged 4) 4
unfolding depth_of first_bad largest bend largest_of gap_of rows_of table
quartic_from_8864 = (refl, refl)
