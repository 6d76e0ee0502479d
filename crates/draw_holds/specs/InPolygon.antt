-- When a polygon holds a point, edges included (document 02, request 14). The polygon is convex and given by its
-- vertices, counter-clockwise. One vertex is that point, and two are the segment between them. Three or more hold what
-- lies to the left of every edge or on it: of the edge from each vertex to the next, and of the closing one from the
-- last to the first.
use Rattle.std.specs.Prelude.{◌≡◌, List, [], ◌∷◌, ℕ, suc, ◌<◌, length, pos, ◌≤ℤ◌}
use Rattle.draw_polygon.specs.declared.Point.{Point}
use Rattle.draw_polygon.specs.Hull.{turn, Between, round}

-- p lies on the segment from u to v, ends included
pub record OnSegment (u v p : Point) : Type 0 where
  pub in_line : turn u v p ≡ pos 0
  pub across : Between u.x v.x p.x
  pub upright : Between u.y v.y p.y

-- p lies to the left of every edge, or on it
abbrev pub LeftOfEdges : List Point → Point → Type 0
LeftOfEdges vs p = (k : ℕ) → k < length vs → pos 0 ≤ℤ turn (round vs k) (round vs (suc k)) p

abbrev pub InPolygon : List Point → Point → Type 0
InPolygon [] p = ⊥
InPolygon (u ∷ []) p = p ≡ u
InPolygon (u ∷ v ∷ []) p = OnSegment u v p
InPolygon (u ∷ v ∷ w ∷ vs) p = LeftOfEdges (u ∷ v ∷ w ∷ vs) p
