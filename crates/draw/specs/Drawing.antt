-- What drawing answers, and what it leaves in the caller's list (document 01, "Drawing a cover" and checks 12 and 13).
use Rattle.std.specs.Prelude.{true, false, List, ◌++◌, ℕ, ltb, length, drop, ℤ, Result, Ok, Err}
use Rattle.std.proofs.Math.Option.{Option, none, some}
use Rattle.refusals.specs.declared.Refusal.{Refusal}
use Rattle.refusals.specs.declared.Refusal.TheVariants.{BoxNumber, TooFewVertices}
use Rattle.boxes.specs.declared.Box.{Box}
use Rattle.boxes.specs.Ranges.{numbers_of, boxes_fault}
use Rattle.draw_polygon.specs.Polygon.{vertices, numbers}

-- 12: the place of the first bad number among the eight
abbrev pub two_boxes_fault : Box → Box → Option ℕ
two_boxes_fault a b = boxes_fault 8 (numbers_of a ++ numbers_of b)

-- the answer, with `room` numbers lent: 12, then 13, then the count of vertices
unfoldable pub drawn : Box → Box → ℕ → Result ℕ Refusal
drawn a b room =
    elim (two_boxes_fault a b) [
      | some place ↦ Err (BoxNumber place)
      | none ↦ elim (ltb room 16) [ true ↦ Err (TooFewVertices room) | false ↦ Ok (length (vertices a b)) ]
    ]

-- the caller's list afterwards: x and y of each vertex in front of what stood behind them; a refusal alters nothing
abbrev pub list_after : Result ℕ Refusal → List ℤ → List ℤ → List ℤ
list_after (Err r) ns old = old
list_after (Ok n) ns old = ns ++ drop (length ns) old

unfoldable pub drawn_into : Box → Box → List ℤ → List ℤ
drawn_into a b old = list_after (drawn a b (length old)) (numbers (vertices a b)) old
