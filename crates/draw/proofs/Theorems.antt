-- The vertices that drawing writes are the hull of the two boxes, in the words of document 01, and no other list is.
use mathlib.Core.Path.{◌≡◌}
use mathlib.Core.Bool.{Bool, true, false, ◌&&◌}
use mathlib.Core.List.{List, ◌++◌}
use mathlib.Core.Option.{none}
use Prim.Native.Nat.{ℕ, suc, ◌≤◌, ◌<◌}
use native.Mathlib.Omega.{arith}
use lib.ListN.{length}
use lib.IntN.{ℤ, pos}
use lib.Signed.{le_z, ◌≤ℤ◌, ◌<ℤ◌}
use Rattle.integers.specs.Entry.{entry}
use Rattle.integers.proofs.Clash.{clash}
use Rattle.integers.proofs.First.{none_bad}
use Rattle.integers.proofs.Ranges.{le_yes}
use Rattle.boxes.specs.declared.Box.{Box}
use Rattle.boxes.specs.Ranges.{in_range, box_number_fine, numbers_of}
use Rattle.draw_polygon.specs.declared.Point.{Point}
use Rattle.draw_polygon.specs.Polygon.{path_of, vertices}
use Rattle.draw_polygon.specs.Hull.{Ordered, OfBoxes, ACorner, turn, round, Hull, AllEqual, InLine}
use Rattle.draw_polygon.proofs.Vertices.{vertices_most}
use Rattle.draw_polygon.proofs.Hulls.{one_vertex, vertex_one, two_vertices, vertices_two, one_hull}
use Rattle.draw_polygon.proofs.InLine.{no_three_in_line, turns_left_in_order}
use Rattle.draw_polygon.proofs.Boxes.{of_corner, hull_of_points, each_corner, fewer}
use Rattle.draw.specs.Drawing.{two_boxes_fault}

-- ---- what check 12 says
low_first : (s t : Bool) → (s && t) ≡ true → t ≡ true
low_first true t e = e
low_first false t e = clash (cc)

module _ (a b : Box) (accepted : two_boxes_fault a b ≡ none) where
  abbrev fine : ℕ → Bool
  fine p = box_number_fine p (entry (numbers_of a ++ numbers_of b) p) (entry (numbers_of a ++ numbers_of b) (suc p))

  pub ordered : Ordered a × Ordered b
  ordered = (
    record {
      x = order a.x_low a.x_high (none_bad fine 8 0 accepted 0 (omega arith));
      y = order a.y_low a.y_high (none_bad fine 8 0 accepted 2 (omega arith));
    },
    record {
      x = order b.x_low b.x_high (none_bad fine 8 0 accepted 4 (omega arith));
      y = order b.y_low b.y_high (none_bad fine 8 0 accepted 6 (omega arith));
    },
  )
    where
      order : (l m : ℤ) → (in_range l && le_z l m) ≡ true → l ≤ℤ m
      order l m e = le_yes (low_first (in_range l) (le_z l m) e)

  -- ---- the theorems, for boxes that check 12 accepts
  -- the vertices are the hull of all points of the two boxes
  pub hull_of_boxes : Hull (OfBoxes a b) (vertices a b)
  hull_of_boxes = hull_of_points a b ordered.0 ordered.1

  -- and of their corners, among which they are
  pub hull_of_corners : Hull (ACorner a b) (vertices a b)
  hull_of_corners = fewer hull_of_boxes (λ p c. of_corner a b ordered.0 ordered.1 c) (each_corner a b ordered.0 ordered.1)

  -- no other list is
  pub only_hull : {vs : List Point} → Hull (ACorner a b) vs → vs ≡ vertices a b
  only_hull h = one_hull h hull_of_corners

  -- 1 to 8 vertices
  pub at_least_one : 1 ≤ length (vertices a b)
  at_least_one = hull_of_corners.some

  pub at_most_eight : length (vertices a b) ≤ 8
  unfolding vertices
  at_most_eight = vertices_most (path_of a b)

  -- every three vertices, in their order, turn strictly left: no three are in line
  pub turns_strictly : (i j k : ℕ) → i < j → j < k → k < length (vertices a b)
      → pos 0 <ℤ turn (round (vertices a b) i) (round (vertices a b) j) (round (vertices a b) k)
  turns_strictly = turns_left_in_order hull_of_corners

  pub no_three : (i j k : ℕ) → i < j → j < k → k < length (vertices a b)
      → turn (round (vertices a b) i) (round (vertices a b) j) (round (vertices a b) k) ≡ pos 0 → ⊥
  no_three = no_three_in_line hull_of_corners

  -- one vertex exactly where all corners are equal, and at most two exactly where they are in line
  pub one_exactly : (length (vertices a b) ≡ 1 → AllEqual (ACorner a b)) × (AllEqual (ACorner a b) → length (vertices a b) ≡ 1)
  one_exactly = (one_vertex hull_of_corners, vertex_one hull_of_corners)

  pub two_exactly : (length (vertices a b) ≤ 2 → InLine (ACorner a b)) × (InLine (ACorner a b) → length (vertices a b) ≤ 2)
  two_exactly = (two_vertices hull_of_corners, vertices_two hull_of_corners)
