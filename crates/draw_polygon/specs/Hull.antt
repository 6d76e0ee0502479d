-- The convex hull in the words of document 01, of the points that a property X has. No contract cites this page:
-- `crates/draw/proofs/Theorems.antt` shows that `vertices` is the hull of two boxes, and that no other list is.
use Rattle.std.specs.Prelude.{◌≡◌, ◌⊎◌, List, ◌++◌, ℕ, suc, ◌<◌, length, get_or, ℤ, pos, ◌-ℤ◌, ◌*ℤ◌, ◌≤ℤ◌}
use Rattle.boxes.specs.declared.Box.{Box}
use Rattle.draw_polygon.specs.declared.Point.{Point}

-- ---- two boxes
-- no low above its high
pub record Ordered (b : Box) : Type 0 where
  pub x : b.x_low ≤ℤ b.x_high
  pub y : b.y_low ≤ℤ b.y_high

-- a point of a box, edges included
pub record InBox (b : Box) (p : Point) : Type 0 where
  pub x_from : b.x_low ≤ℤ p.x
  pub x_to : p.x ≤ℤ b.x_high
  pub y_from : b.y_low ≤ℤ p.y
  pub y_to : p.y ≤ℤ b.y_high

pub record Corner (b : Box) (p : Point) : Type 0 where
  pub x : (p.x ≡ b.x_low) ⊎ (p.x ≡ b.x_high)
  pub y : (p.y ≡ b.y_low) ⊎ (p.y ≡ b.y_high)

abbrev pub OfBoxes : Box → Box → Point → Type 0
OfBoxes a b p = InBox a p ⊎ InBox b p

abbrev pub ACorner : Box → Box → Point → Type 0
ACorner a b p = Corner a p ⊎ Corner b p

-- ---- edges
-- the cross product of the way from u to v and the way from u to p: positive where p lies to the left, negative to the
-- right, 0 on the line
unfoldable pub turn : Point → Point → Point → ℤ
turn u v p = (v.x -ℤ u.x) *ℤ (p.y -ℤ u.y) -ℤ (v.y -ℤ u.y) *ℤ (p.x -ℤ u.x)

-- c lies between a and b, whichever is the less
abbrev pub Between : ℤ → ℤ → ℤ → Type 0
Between a b c = ((a ≤ℤ c) × (c ≤ℤ b)) ⊎ ((b ≤ℤ c) × (c ≤ℤ a))

-- every point lies to the left of the way from u to v, or on it between its ends
pub record Edge (X : Point → Type 0) (u v : Point) : Type 0 where
  pub left : (p : Point) → X p → pos 0 ≤ℤ turn u v p
  pub on : (p : Point) → X p → turn u v p ≡ pos 0 → Between u.x v.x p.x × Between u.y v.y p.y

-- ---- the hull
-- vertex k of a list that goes round: after the last comes the first again
abbrev pub round : List Point → ℕ → Point
round vs k = get_or (vs ++ vs) k (record { x = pos 0; y = pos 0 })

-- the lowest, then leftmost
pub record Lowest (X : Point → Type 0) (u : Point) : Type 0 where
  pub lowest : (p : Point) → X p → u.y ≤ℤ p.y
  pub leftmost : (p : Point) → X p → p.y ≡ u.y → u.x ≤ℤ p.x

pub record Hull (X : Point → Type 0) (vs : List Point) : Type 0 where
  pub some : 0 < length vs
  pub each : (k : ℕ) → k < length vs → X (round vs k)
  pub edge : (k : ℕ) → k < length vs → Edge X (round vs k) (round vs (suc k))
  pub once : (i k : ℕ) → i < k → k < length vs → round vs i ≡ round vs k → ⊥
  pub first : Lowest X (round vs 0)

-- all points are one; any three lie in line
abbrev pub AllEqual : (Point → Type 0) → Type 0
AllEqual X = (p q : Point) → X p → X q → p ≡ q

abbrev pub InLine : (Point → Type 0) → Type 0
InLine X = (p q r : Point) → X p → X q → X r → turn p q r ≡ pos 0
