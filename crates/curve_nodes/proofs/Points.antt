-- A point within T of a curve is near it in x and in y alike; and not every point that is near it so is within T.
use mathlib.Core.List.{List, [], ◌∷◌}
use Prim.Native.Nat.{ℕ, ◌+◌}
use lib.IntN.{ℤ, pos, pow, one}
use lib.Signed.{◌≤ℤ◌, le_z_yes}
use Rattle.integers.specs.Squares.{squared}
use Rattle.integers.proofs.Order.{NonNeg, natural, pow_nonneg, ◌×₀◌}
use Rattle.integers.proofs.Squares.{root_mono, root_below, left_square, right_square}
use Rattle.curve_bernstein.specs.Value.{choose, sum, value}
use Rattle.curve_nodes.specs.declared.Curve.{Curve}
use Rattle.curve_nodes.specs.Points.{scaled, offset, Near, Within}

module _ {s : ℕ} {T : ℤ} (some : NonNeg T) where
  near : (d p r : ℕ) (cs : List ℤ) (z : ℤ) → squared (offset s d p r cs z) ≤ℤ squared (scaled s d p r T) → Near s T d p r cs z
  near d p r cs z h =
      let positive = natural s ×₀ (pow_nonneg (p + r) d ×₀ some) in
      record { above = root_mono positive h; below = root_below (offset s d p r cs z) positive h }

  pub within_near : {c : Curve} {p r : ℕ} {x y : ℤ} → Within s T c p r x y
      → Near s T c.degree p r c.x x × Near s T c.degree p r c.y y
  within_near {c} {p} {r} {x} {y} w =
      let d = c.degree in
      let a = offset s d p r c.x x in
      let b = offset s d p r c.y y in
      (near d p r c.x x (left_square a b w.distance), near d p r c.y y (right_square a b w.distance))

-- ---- a corner: (3, 4) is within 5 of a curve that starts in (0, 0), and (4, 4), whose coordinates both differ by less, is not
abbrev corner : Curve
corner = record { degree = 1; x = pos 0 ∷ pos 9 ∷ []; y = pos 0 ∷ pos 9 ∷ [] }

pub corner_within : Within 1 (pos 5) corner 0 1 (pos 3) (pos 4)
unfolding value sum choose pow one
corner_within = record { distance = le_z_yes tt }

pub corner_beyond : Within 1 (pos 5) corner 0 1 (pos 4) (pos 4) → ⊥
unfolding value sum choose pow one
corner_beyond w = w.distance.le
