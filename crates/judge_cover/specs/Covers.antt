-- When a cover holds a point (document 01, "Judging"): for some fraction s from 0 to 1, the same for x and y, the point
-- lies in the box (1 − s) × box i + s × box i + 1, edges included. s is b / (a + b) for two naturals a and b that are
-- not both 0, and both sides are multiplied by a + b.
use Rattle.std.specs.Prelude.{List, ℕ, suc, ◌+◌, ◌<◌, ℤ, pos, ◌+ℤ◌, ◌*ℤ◌, ◌≤ℤ◌}
use Rattle.boxes.specs.declared.Box.{Box}
use Rattle.setting.specs.Setting.{Setting}
use Rattle.boxes.specs.Records.{box_index, box_at_index}

-- one coordinate z, between the mixture of two lows and that of two highs
pub record Mixed (a b : ℕ) (low₀ high₀ low₁ high₁ z : ℤ) : Type 0 where
  pub low : (pos a *ℤ low₀ +ℤ pos b *ℤ low₁) ≤ℤ (pos (a + b) *ℤ z)
  pub high : (pos (a + b) *ℤ z) ≤ℤ (pos a *ℤ high₀ +ℤ pos b *ℤ high₁)

-- the cover between two boxes holds the point (x, y): the convex combination of two neighbouring point enclosures of
-- J. Peters and X. Wu, "SLEVEs for planar spline curves" (CAGD 21, 2004), section 4
pub record Holds (first second : Box) (x y : ℤ) : Type 0 where
  pub a : ℕ
  pub b : ℕ
  pub some : 0 < a + b
  pub in_x : Mixed a b first.x_low first.x_high second.x_low second.x_high x
  pub in_y : Mixed a b first.y_low first.y_high second.y_low second.y_high y

-- cover i of record k of a leaf list holds the point
abbrev pub CoverHolds : Setting → List ℤ → (k i : ℕ) → (x y : ℤ) → Type 0
CoverHolds σ ns k i x y = Holds (box_at_index ns (box_index σ k i)) (box_at_index ns (box_index σ k (suc i))) x y
