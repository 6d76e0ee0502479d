-- Points and polygons by computation: the polygon of document 01's boxes 0–1 by 0–1 and 3–4 by 3–4, a segment and a single point.
use mathlib.Core.Path.{◌≡◌, refl}
use mathlib.Core.Logic.{inl, ⊎_elim}
use mathlib.Core.List.{List, [], ◌∷◌}
use Prim.Native.Nat.{ℕ, suc}
use native.Mathlib.Omega.{arith}
use lib.ListN.{replicate}
use lib.IntN.{pos}
use lib.Signed.{le_z, le_z_yes}
use Rattle.integers.specs.First.{first_bad}
use Rattle.integers.proofs.Clash.{clash}
use Rattle.integers.proofs.Table.{below}
use Rattle.boxes.specs.declared.Box.{Box}
use Rattle.draw_polygon.specs.declared.Point.{Point}
use Rattle.draw_polygon.specs.Polygon.{reached, ends_of_spans, path_point, moves, vertices_of, path_of, vertices, numbers}
use Rattle.draw_polygon.specs.Hull.{turn, round}
use Rattle.draw.specs.Drawing.{drawn, drawn_into}
use Rattle.draw_holds.specs.InPolygon.{InPolygon}
use Rattle.draw_holds.specs.Polygons.{points_of, drawn_polygon}

abbrev point : (x y : ℕ) → Point
point x y = record { x = pos x; y = pos y }

abbrev square : (low high : ℕ) → Box
square low high = record { x_low = pos low; x_high = pos high; y_low = pos low; y_high = pos high }

-- ---- six vertices: (2 1) lies on the edge from (1 0) to (4 3), and (3 1) to its right
abbrev six : List Point
six = point 0 0 ∷ point 1 0 ∷ point 4 3 ∷ point 4 4 ∷ point 3 4 ∷ point 0 1 ∷ []

six_drawn : drawn_polygon (square 0 1) (square 3 4) (replicate 16 (pos 0)) ≡ six
unfolding points_of drawn_into drawn first_bad reached ends_of_spans path_point moves vertices_of path_of vertices numbers
six_drawn = refl

pub on_an_edge : InPolygon six (point 2 1)
unfolding turn
on_an_edge k h = le_z_yes (below 6 (λ j. le_z (pos 0) (turn (round six j) (round six (suc j)) (point 2 1))) tt k h)

beside_it : InPolygon six (point 3 1) → ⊥
unfolding turn
beside_it i = (i 1 (omega arith)).le

-- ---- two vertices, from (0 0) to (4 2): (2 1) lies between them, (6 3) in line beyond, (2 2) beside
abbrev two : List Point
two = point 0 0 ∷ point 4 2 ∷ []

pub on_the_segment : InPolygon two (point 2 1)
unfolding turn
on_the_segment = record { in_line = refl; across = inl (le_z_yes tt, le_z_yes tt); upright = inl (le_z_yes tt, le_z_yes tt) }

beside_the_segment : InPolygon two (point 2 2) → ⊥
unfolding turn
beside_the_segment i = let e = i.in_line in clash (cc)

beyond_its_end : InPolygon two (point 6 3) → ⊥
beyond_its_end i = ⊎_elim (λ h. h.1.le) (λ h. h.1.le) i.across

-- ---- one vertex
pub on_the_point : InPolygon (point 2 1 ∷ []) (point 2 1)
on_the_point = refl
