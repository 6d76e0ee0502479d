-- Only the contracts of functions inside cite what stands here; nothing of it is part of a public promise.
use Rattle.std.specs.Prelude.{◌≡◌, List, ℕ, ◌+◌, ◌/◌, ◌^◌, ◌≤◌, length, ℤ, pos, ◌*ℤ◌, ◌≤ℤ◌}
use Rattle.std.proofs.Math.Option.{none}
use Rattle.setting.specs.Setting.{Setting}
use Rattle.integers.specs.Squares.{squared}
use Rattle.curve_nodes.specs.declared.Curve.{Curve}
use Rattle.walk_tree.specs.Tree.{first_failing}
use Rattle.walk_curve.specs.Walked.{node_meets, ends_of}
use Rattle.band_passes.specs.Leaves.{first_too_wide, leaves_of}

-- n is 2^j, and a box that is bend over 3750 × 4^j wide and high, rounded down, and two more, is not too long
pub record Reaches (bend : ℕ) (T : ℤ) (n : ℕ) : Type 0 where
  pub depth : ℕ
  pub within : depth ≤ 8
  pub is : n ≡ 2 ^ depth
  pub fits : (pos 2 *ℤ squared (pos (bend / 4 ^ depth / 3750 + 2))) ≤ℤ squared T

-- every end of the walk of a curve is a leaf, and there are at most n
pub record Few (σ : Setting) (T : ℤ) (c : Curve) (n : ℕ) : Type 0 where
  pub passing : first_failing (node_meets σ T c) (ends_of σ T c) ≡ none
  pub few : length (ends_of σ T c) ≤ n

-- so it is of all curves
pub record Fits (σ : Setting) (T : ℤ) (cs : List Curve) (room : ℕ) : Type 0 where
  pub passing : first_too_wide σ T 0 cs ≡ none
  pub few : leaves_of σ T cs ≤ room
