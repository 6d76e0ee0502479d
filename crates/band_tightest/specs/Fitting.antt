-- What the theorems of the tightest band speak of: an outline without faults, a tolerance that fits, and the least one.
-- No contract cites these; crates/band_tightest/proofs/Theorems.antt does.
use Rattle.std.specs.Prelude.{◌≡◌, true, List, ℕ, ◌≤◌, ℤ, pos}
use Rattle.setting.specs.Setting.{Setting, pieces_fine}
use Rattle.curve_nodes.specs.declared.Curve.{Curve}
use Rattle.outline.specs.Checks.{curves, outlined}
use Rattle.band_passes.specs.Leaves.{leaves_of}
use Rattle.band_passes.specs.FirstWide.{AllMeet}

-- the checks of m and of the outline, all those of banding before the walk but that of a tolerance, find no fault, and
-- the curves are cs
pub record Fine (σ : Setting) (ns : List ℤ) (cs : List Curve) : Type 0 where
  pub pieces : pieces_fine σ.pieces ≡ true
  pub outline : outlined σ.most σ.pieces ns ≡ curves cs

-- T is of the span, nothing is too wide at it, and the curves have at most R leaves
pub record Fits (σ : Setting) (cs : List Curve) (R T : ℕ) : Type 0 where
  pub low : 2 ≤ T
  pub high : T ≤ 1048576
  pub meet : AllMeet σ (pos T) cs
  pub few : leaves_of σ (pos T) cs ≤ R

-- T fits, and no smaller one does
pub record LeastFits (σ : Setting) (cs : List Curve) (R T : ℕ) : Type 0 where
  pub fits : Fits σ cs R T
  pub least : (S : ℕ) → Fits σ cs R S → T ≤ S
