-- What the theorems of foretelling speak of: what a number of the list tells of its curve, and what banding does where
-- leaves are foretold. No contract cites these; crates/band_foretold/proofs/Theorems.antt does.
use Rattle.std.specs.Prelude.{◌≡◌, List, ℕ, ◌*◌, ◌≤◌, ℤ, pos, negsuc, Err}
use Rattle.setting.specs.Setting.{Setting, record_length}
use Rattle.refusals.specs.declared.Refusal.TheVariants.{TooWide, TooFewRecords}
use Rattle.curve_nodes.specs.declared.Curve.{Curve}
use Rattle.walk_depths.specs.Depth.{IsDepth, NoDepth}
use Rattle.band_banded.specs.Banding.{done, banded}

-- a number from 0 on is the depth of its curve; any other is −1, and the curve has none
abbrev pub Tells : Setting → ℤ → Curve → ℤ → Type 0
Tells σ T c (pos j) = IsDepth σ T c j
Tells σ T c (negsuc i) = (i ≡ 0) × NoDepth σ T c

-- what banding does where `a` leaves and `b` nodes are foretold, and `a` is not 0
pub record Foretells (σ : Setting) (T : ℤ) (ns : List ℤ) (a b : ℕ) : Type 0 where
  -- banding never refuses with 7, whatever is lent
  pub no_wide : (room k n : ℕ) → banded σ T ns room ≡ Err (TooWide k n) → ⊥
  -- where `a` records are lent, banding never refuses with 8
  pub no_few : (room l : ℕ) → record_length σ * a ≤ room → banded σ T ns room ≡ Err (TooFewRecords l) → ⊥
  -- banding never counts more leaves, nor more nodes
  pub no_more : (room x y z : ℕ) → banded σ T ns room ≡ done x y z → (y ≤ a) × (z ≤ b)
  -- where `a` records are lent banding accepts, if the setting allows 256 leaves for every curve
  pub accepts : (room : ℕ) → 256 * σ.most ≤ σ.leaves → record_length σ * a ≤ room
      → (x : ℕ) × (y : ℕ) × (z : ℕ) × (banded σ T ns room ≡ done x y z)
