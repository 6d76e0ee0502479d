-- The depth of a curve (request 09): the least j up to its greatest depth that meets the premise, where there is one.
use Rattle.std.specs.Prelude.{not, ℕ, ◌+◌, ◌≤◌, ◌<◌, ℤ}
use Rattle.std.proofs.Math.Option.{Option}
use Rattle.setting.specs.Setting.{Setting, deepest}
use Rattle.integers.specs.First.{first_bad}
use Rattle.curve_nodes.specs.declared.Curve.{Curve}
use Rattle.walk_depths.specs.Premise.{Flat, is_flat}

-- the least j from 0 to the greatest depth at which the premise holds, found as the first at which its opposite fails
unfoldable pub depth_of : Setting → ℤ → Curve → Option ℕ
depth_of σ T c = first_bad (λ j. not (is_flat σ T c j)) (deepest c.degree + 1) 0

-- j is the depth of a curve, in words: the same by `depth_exactly` of crates/walk_depths/proofs/Least.antt
pub record IsDepth (σ : Setting) (T : ℤ) (c : Curve) (j : ℕ) : Type 0 where
  pub within : j ≤ deepest c.degree
  pub flat : Flat σ T c j
  pub no_less : (k : ℕ) → k < j → Flat σ T c k → ⊥

-- a curve has no depth, in words: the same by `none_exactly`
pub record NoDepth (σ : Setting) (T : ℤ) (c : Curve) : Type 0 where
  pub none : (j : ℕ) → j ≤ deepest c.degree → Flat σ T c j → ⊥
