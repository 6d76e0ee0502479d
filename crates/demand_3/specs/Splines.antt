-- A B-spline and a point, by the spline's basis over its points alone (document 02, request 13). The point (x, y) is in
-- sixteenths of a stage unit, and p / (p + r) is the parameter on curve k. Both sides are multiplied by 6 (p + r)³.
use Rattle.std.specs.Prelude.{◌≡◌, List, ℕ, ◌+◌, ◌<◌, ◌/◌, length, ℤ, pos, ◌+ℤ◌, ◌-ℤ◌, ◌*ℤ◌, ◌≤ℤ◌}
use Rattle.integers.specs.Squares.{squared}
use Rattle.curve_nodes.specs.Points.{scaled}
use Rattle.outline_splines.specs.Basis.{spline_sum}

-- how far z is from coordinate `which` of the spline there: 0 is x, 1 is y
abbrev pub spline_offset : List ℤ → (which k p r : ℕ) → ℤ → ℤ
spline_offset ns which k p r z = scaled 6 3 p r z -ℤ pos 16 *ℤ spline_sum ns which k (pos p) (pos r)

-- the spline has a curve k, and a parameter on it
pub record SplinePlace (ns : List ℤ) (k p r : ℕ) : Type 0 where
  pub curve : k + 3 < length ns / 2
  pub some : 0 < p + r

-- the point equals the spline there
pub record OnSpline (ns : List ℤ) (k p r : ℕ) (x y : ℤ) : Type 0 where
  pub place : SplinePlace ns k p r
  pub in_x : scaled 6 3 p r x ≡ pos 16 *ℤ spline_sum ns 0 k (pos p) (pos r)
  pub in_y : scaled 6 3 p r y ≡ pos 16 *ℤ spline_sum ns 1 k (pos p) (pos r)

-- the spline is within T of the point somewhere: the square of their distance is at most T squared
pub record NearSpline (ns : List ℤ) (T x y : ℤ) : Type 0 where
  pub k : ℕ
  pub p : ℕ
  pub r : ℕ
  pub place : SplinePlace ns k p r
  pub distance : (squared (spline_offset ns 0 k p r x) +ℤ squared (spline_offset ns 1 k p r y))
      ≤ℤ squared (scaled 6 3 p r T)
