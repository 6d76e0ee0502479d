-- Points of a curve (document 01, "Outline and tolerance"). A rational parameter is two naturals p and r that are not
-- both 0: t = p / (p + r). A point's coordinates are sixteenths of a stage unit, so they stand against 16 times the
-- curve's. Control values are s to a stage unit: 1, or 6 where they are sixths (request 13). Both sides are multiplied
-- by s (p + r)^d.
use Rattle.std.specs.Prelude.{◌≡◌, List, ℕ, ◌+◌, ℤ, pos, neg_ℤ, ◌+ℤ◌, ◌-ℤ◌, ◌*ℤ◌, ◌≤ℤ◌}
use Rattle.std.proofs.Math.IntN.{pow}
use Rattle.integers.specs.Squares.{squared}
use Rattle.curve_bernstein.specs.Value.{value}
use Rattle.curve_nodes.specs.declared.Curve.{Curve}

-- z times s (p + r)^d
abbrev pub scaled : (s d p r : ℕ) → ℤ → ℤ
scaled s d p r z = pos s *ℤ (pow (pos (p + r)) d *ℤ z)

-- 16 times the value of the control values of a coordinate at p / (p + r), times (p + r)^d
abbrev pub sixteenths : ℕ → (p r : ℕ) → List ℤ → ℤ
sixteenths d p r cs = pos 16 *ℤ value (pos p) (pos r) d cs

-- the point (x, y) equals the curve at p / (p + r)
pub record Equals (s : ℕ) (c : Curve) (p r : ℕ) (x y : ℤ) : Type 0 where
  pub in_x : scaled s c.degree p r x ≡ sixteenths c.degree p r c.x
  pub in_y : scaled s c.degree p r y ≡ sixteenths c.degree p r c.y

-- how far z is from the coordinate at p / (p + r), times s (p + r)^d
abbrev pub offset : (s d p r : ℕ) → List ℤ → ℤ → ℤ
offset s d p r cs z = scaled s d p r z -ℤ sixteenths d p r cs

-- the curve is within T of the point (x, y) at p / (p + r): the squared distance is at most T squared, both sides
-- times s² (p + r)^(2d)
pub record Within (s : ℕ) (T : ℤ) (c : Curve) (p r : ℕ) (x y : ℤ) : Type 0 where
  pub distance : (squared (offset s c.degree p r c.x x) +ℤ squared (offset s c.degree p r c.y y))
      ≤ℤ squared (scaled s c.degree p r T)

-- z differs from the coordinate at p / (p + r) by T at most; within T, both coordinates do (`within_near`)
pub record Near (s : ℕ) (T : ℤ) (d p r : ℕ) (cs : List ℤ) (z : ℤ) : Type 0 where
  pub above : offset s d p r cs z ≤ℤ scaled s d p r T
  pub below : neg_ℤ (offset s d p r cs z) ≤ℤ scaled s d p r T
