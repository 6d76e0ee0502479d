-- The premise of the depth claim (demand 3): where it holds of a curve, T and j, no leaf of the curve is deeper than j.
use Rattle.std.specs.Prelude.{Bool, ℕ, ◌*◌, ◌^◌, ℤ, pos, ◌+ℤ◌, ◌*ℤ◌, ◌≤ℤ◌}
use Rattle.std.specs.Int.Signed.{le_z}
use Rattle.setting.specs.Setting.{Setting, scale}
use Rattle.integers.specs.Squares.{squared}
use Rattle.curve_nodes.specs.declared.Curve.{Curve}
use Rattle.curve_nodes.specs.Differences.{largest}
use Rattle.bound_rows.specs.Rule.{gap_of}

-- ---- 2 × (16 × G × M + 20000 × 4^j)² ≤ (10000 × T × 4^j)², where G is that of the curve's degree and the number of
-- pieces (request 05). Where control values are sixths, so is M, and both sides are multiplied by 36 (request 13).
abbrev pub left_side : Setting → Curve → ℕ → ℤ
left_side σ c j =
    pos 2 *ℤ squared
    (pos 16 *ℤ pos (gap_of σ.pieces c.degree) *ℤ pos (largest c) +ℤ pos 20000 *ℤ pos (scale σ * 4 ^ j))

abbrev pub right_side : Setting → ℤ → ℕ → ℤ
right_side σ T j = squared (pos 10000 *ℤ T *ℤ pos (scale σ * 4 ^ j))

abbrev pub Flat : Setting → ℤ → Curve → ℕ → Type 0
Flat σ T c j = left_side σ c j ≤ℤ right_side σ T j

-- whether the premise holds, as a test
abbrev pub is_flat : Setting → ℤ → Curve → ℕ → Bool
is_flat σ T c j = le_z (left_side σ c j) (right_side σ T j)

-- ---- the premise of request 04, for three pieces: 2 × (178 × M + 250 × 4^j)² ≤ (125 × T × 4^j)². At degree 3 it
-- holds exactly where `Flat` does, by `flat_thirds` of crates/walk_depths/proofs/Thirds.antt.
abbrev pub FlatThirds : ℤ → Curve → ℕ → Type 0
FlatThirds T c j =
    (pos 2 *ℤ squared (pos 178 *ℤ pos (largest c) +ℤ pos 250 *ℤ pos (4 ^ j)))
    ≤ℤ squared (pos 125 *ℤ T *ℤ pos (4 ^ j))
