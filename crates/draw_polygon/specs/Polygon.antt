-- The polygon round two boxes (document 01, "Drawing a cover"), as a list of vertices. No product is needed: the hull
-- of two boxes touches each side of their bounding box in the stretch that the boxes reaching this side cover, and the
-- ends of the four stretches are its vertices.
use Rattle.std.specs.Prelude.{Bool, true, false, ◌&&◌, List, [], ◌∷◌, ◌++◌, ℕ, zero, suc, get_or, ℤ}
use Rattle.std.specs.Int.Signed.{lt_z}
use Rattle.integers.specs.Equal.{equal}
use Rattle.boxes.specs.declared.Box.{Box}
use Rattle.draw_polygon.specs.declared.Span.{Span}
use Rattle.draw_polygon.specs.declared.Point.{Point}
use Rattle.draw_polygon.specs.declared.Ends.{Ends}

-- ---- spans
abbrev pub lower : ℤ → ℤ → ℤ
lower a b = elim (lt_z a b) [ true ↦ a | false ↦ b ]

abbrev pub higher : ℤ → ℤ → ℤ
higher a b = elim (lt_z a b) [ true ↦ b | false ↦ a ]

abbrev pub joined_span : Span → Span → Span
joined_span s t = record { low = lower s.low t.low; high = higher s.high t.high }

-- the first span where a is less, the second where b is, and both, joined, where they are equal
unfoldable pub reached : ℤ → ℤ → Span → Span → Span
reached a b s t = elim (lt_z a b) [ true ↦ s | false ↦ elim (lt_z b a) [ true ↦ t | false ↦ joined_span s t ] ]

-- Two boxes whose levels are l and m, and whose stretches across the levels are s and t: the lowest and the highest
-- level, and what is covered at each.
unfoldable pub ends_of_spans : Span → Span → Span → Span → Ends
ends_of_spans l m s t = record {
  levels = joined_span l m;
  lowest = reached l.low m.low s t;
  highest = reached m.high l.high s t;
}

abbrev pub across_of : Box → Span
across_of b = record { low = b.x_low; high = b.x_high }

abbrev pub upright_of : Box → Span
upright_of b = record { low = b.y_low; high = b.y_high }

-- ---- the path: counter-clockwise along the lowest, the rightmost, the highest and the leftmost side, and back to its
-- start. The levels of v are y, those of h are x.
unfoldable pub path_point : Ends → Ends → ℕ → Point
path_point v h k =
    let start : Point = record { x = v.lowest.low; y = v.levels.low } in
    get_or (
    start
    ∷ record { x = v.lowest.high; y = v.levels.low }
    ∷ record { x = h.levels.high; y = h.highest.low }
    ∷ record { x = h.levels.high; y = h.highest.high }
    ∷ record { x = v.highest.high; y = v.levels.high }
    ∷ record { x = v.highest.low; y = v.levels.high }
    ∷ record { x = h.levels.low; y = h.lowest.high }
    ∷ record { x = h.levels.low; y = h.lowest.low }
    ∷ []
    ) k start

-- ---- its vertices: the points from which it moves on, or its first where it never does
-- the two points are one
abbrev pub same : Point → Point → Bool
same p q = equal p.x q.x && equal p.y q.y

-- the point p, unless the next is the same
abbrev pub unless_same : Point → Point → List Point
unless_same p q = elim (same p q) [ true ↦ [] | false ↦ p ∷ [] ]

-- of the first n points of a path
unfoldable pub moves : (ℕ → Point) → ℕ → List Point
moves f zero = []
moves f (suc n) = moves f n ++ unless_same (f n) (f (suc n))

abbrev pub or_first : Point → List Point → List Point
or_first p [] = p ∷ []
or_first p (q ∷ qs) = q ∷ qs

unfoldable pub vertices_of : (ℕ → Point) → List Point
vertices_of f = or_first (f 0) (moves f 8)

unfoldable pub path_of : Box → Box → ℕ → Point
path_of a b =
    path_point (ends_of_spans (upright_of a) (upright_of b) (across_of a) (across_of b))
    (ends_of_spans (across_of a) (across_of b) (upright_of a) (upright_of b))

unfoldable pub vertices : Box → Box → List Point
vertices a b = vertices_of (path_of a b)

-- x and y of each vertex in turn
unfoldable pub numbers : List Point → List ℤ
numbers [] = []
numbers (p ∷ ps) = p.x ∷ p.y ∷ numbers ps
