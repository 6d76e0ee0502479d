-- A point with whole coordinates is held by a cover exactly where the polygon drawn round the cover holds it, edges included, for one and two
-- vertices as well: of any two boxes without a low above its high, and of what drawing writes.
use mathlib.Core.Path.{◌≡◌, refl, sym, ◌∙◌, ap, subst}
use mathlib.Core.Logic.{◌↔◌}
use mathlib.Core.List.{List, [], ◌∷◌, ◌++◌}
use mathlib.Core.Option.{none}
use Prim.Native.Nat.{suc, ◌≤◌}
use native.Mathlib.Omega.{arith}
use borrow.Author.Tests.{le-ltb}
use lib.ListN.{length, drop}
use lib.IntN.{ℤ}
use Rattle.integers.proofs.Order.{nonneg}
use Rattle.boxes.specs.declared.Box.{Box}
use Rattle.refusals.specs.declared.Refusal.{Refusal}
use Rattle.judge_cover.specs.Covers.{Holds}
use Rattle.draw_polygon.specs.declared.Point.{Point}
use Rattle.draw_polygon.specs.Polygon.{vertices, numbers}
use Rattle.draw_polygon.specs.Hull.{Ordered, OfBoxes, round, Hull}
use Rattle.draw_polygon.proofs.Edges.{turn_swap, opposite_zero, edge_stay}
use Rattle.draw_polygon.proofs.Boxes.{hull_of_points}
use Rattle.std.specs.Prelude.{Ok, Err}
use Rattle.draw.specs.Drawing.{two_boxes_fault, drawn, list_after, drawn_into}
use Rattle.draw.proofs.Theorems.{ordered}
use Rattle.draw_holds.specs.InPolygon.{LeftOfEdges, InPolygon}
use Rattle.draw_holds.specs.Polygons.{points_of, points_said, drawn_polygon}
use Rattle.draw_holds.proofs.Mixtures.{Held, cover_left, cover_edge}
use Rattle.draw_holds.proofs.Weighing.{weighed, both_weighed, mean_held, point_held, segment_held}
use Rattle.draw_holds.proofs.Fan.{mean_x, mean_y, triangle}

-- for boxes without a low above its high
module _ {a b : Box} (oa : Ordered a) (ob : Ordered b) (p : Point) where
  -- ---- a hull holds what the cover holds
  held_inside : {vs : List Point} → Hull (OfBoxes a b) vs → Held a b p → InPolygon vs p
  held_inside {vs = []} h c = let s = h.some in absurd (omega arith)
  held_inside {vs = u ∷ []} h c = edge_stay (cover_edge oa ob h 0 (omega arith)) c
  held_inside {vs = u ∷ v ∷ []} h c =
      let there = cover_edge oa ob h 0 (omega arith) in
      let back = cover_edge oa ob h 1 (omega arith) in
      let line = opposite_zero (turn_swap v u p) (there.left p c) (back.left p c) in
      let on = there.on p c line in
      record { in_line = line; across = on.0; upright = on.1 }
  held_inside {vs = u ∷ v ∷ w ∷ vs} h c = λ k l. cover_left oa ob h p c k (omega arith)

  -- ---- the cover holds what a hull holds
  left_held : {vs : List Point} → Hull (OfBoxes a b) vs → 3 ≤ length vs → LeftOfEdges vs p → Held a b p
  left_held {vs} h three left =
      let t = triangle h three p left in
      let u = weighed (nonneg t.across) (h.each 0 h.some) in
      let v = weighed (nonneg t.back) (h.each t.k (omega arith)) in
      let w = weighed (nonneg t.out) (h.each (suc t.k) t.within) in
      mean_held p t.positive (both_weighed (both_weighed u v) w)
      (mean_x (round vs 0) (round vs t.k) (round vs (suc t.k)) p) (mean_y (round vs 0) (round vs t.k) (round vs (suc t.k)) p)

  inside_held : {vs : List Point} → Hull (OfBoxes a b) vs → InPolygon vs p → Held a b p
  inside_held {vs = []} h i = let s = h.some in absurd (omega arith)
  inside_held {vs = u ∷ []} h i = subst (Held a b) (sym i) (point_held (h.each 0 (omega arith)))
  inside_held {vs = u ∷ v ∷ []} h i = segment_held (h.each 0 (omega arith)) (h.each 1 (omega arith)) i
  inside_held {vs = u ∷ v ∷ w ∷ vs} h i = left_held h (omega arith) i

  -- ---- the theorem
  pub held_exactly_inside : Holds a b p.x p.y ↔ InPolygon (vertices a b) p
  held_exactly_inside = let h = hull_of_points a b oa ob in (held_inside h, inside_held h)

-- ---- what drawing writes: the points in the caller's list, as many as it answers, are the vertices
points_back : (ps : List Point) (ns : List ℤ) → points_of (length ps) (numbers ps ++ ns) ≡ ps
unfolding points_of numbers
points_back [] ns = refl
points_back (p ∷ ps) ns = ap (λ l. p ∷ l) (points_back ps ns)

-- for boxes that check 12 accepts, and a list that check 13 accepts
module _ (a b : Box) (lent : List ℤ) (accepted : two_boxes_fault a b ≡ none) (enough : 16 ≤ length lent) where
  answered : drawn a b (length lent) ≡ Ok (length (vertices a b))
  unfolding drawn
  answered = rw (drawn, accepted, le-ltb (length lent) 16 enough)

  pub polygon_drawn : drawn_polygon a b lent ≡ vertices a b
  unfolding drawn_into
  polygon_drawn =
      let ns = numbers (vertices a b) in
      ap (λ d. points_said d (list_after d ns lent)) answered ∙ points_back (vertices a b) (drop (length ns) lent)

  pub held_exactly_drawn : (p : Point) → Holds a b p.x p.y ↔ InPolygon (drawn_polygon a b lent) p
  held_exactly_drawn p = let o = ordered a b accepted in rw polygon_drawn (held_exactly_inside o.0 o.1 p)

-- where drawing refuses, its polygon holds nothing
pub refused_holds_nothing : (a b : Box) (lent : List ℤ) {r : Refusal} → drawn a b (length lent) ≡ Err r → (p : Point)
    → InPolygon (drawn_polygon a b lent) p → ⊥
refused_holds_nothing a b lent e p i = subst (λ d. InPolygon (points_said d (drawn_into a b lent)) p) e i
