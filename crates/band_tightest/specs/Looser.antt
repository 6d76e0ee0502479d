-- Banding at a larger tolerance, all else equal (document 02, request 14). No contract cites this; `still_accepted` of
-- crates/band_tightest/proofs/Looser.antt proves it.
use Rattle.std.specs.Prelude.{◌≡◌, ◌⊎◌, ℕ, ◌≤◌, ℤ}
use mathlib.Core.List.{List, Memᴰ}
use Rattle.setting.specs.Setting.{Setting}
use Rattle.curve_nodes.specs.declared.Curve.{Curve}
use Rattle.outline.specs.Checks.{Outlined, curves}
use Rattle.walk_tree.specs.Leaves.{Ancestor, Leaf}
use Rattle.walk_curve.specs.Walked.{node_meets}
use Rattle.band_banded.specs.Banding.{done, band_given}

-- the leaves of curve c at T and at a larger U
pub record Merged (σ : Setting) (T U : ℤ) (c : Curve) : Type 0 where
  -- a leaf at U is a leaf at T, or an ancestor of leaves at T
  pub from : (n : ℕ) → Leaf (node_meets σ U c) n
      → Leaf (node_meets σ T c) n ⊎ ((e : ℕ) × Leaf (node_meets σ T c) e × Ancestor n e)
  -- and a leaf at T is a leaf at U, or a leaf at U is its ancestor
  pub into : (e : ℕ) → Leaf (node_meets σ T c) e
      → Leaf (node_meets σ U c) e ⊎ ((n : ℕ) × Leaf (node_meets σ U c) n × Ancestor n e)

-- what was accepted at T with a curves and b leaves is accepted at U, with the same list lent: as many curves, no more
-- leaves, and those of each curve merged
pub record StillAccepted (σ : Setting) (T U : ℤ) (o : Outlined) (room a b : ℕ) : Type 0 where
  pub leaves : ℕ
  pub nodes : ℕ
  pub accepts : band_given σ U o room ≡ done a leaves nodes
  pub fewer : leaves ≤ b
  pub all : List Curve
  pub given : o ≡ curves all
  pub merged : (c : Curve) → Memᴰ c all → Merged σ T U c
