-- The answer of drawing and the caller's list, for each way out.
use mathlib.Core.Path.{◌≡◌, sym, ◌∙◌, ap}
use mathlib.Core.List.{List}
use mathlib.Core.Option.{none, some}
use Prim.Native.Nat.{ℕ, ◌≤◌, ◌<◌}
use native.Mathlib.Omega.{arith}
use borrow.Author.Tests.{lt-ltb, le-ltb}
use lib.ListN.{length}
use lib.Seq.{sets}
use lib.IntN.{ℤ}
use Rattle.refusals.specs.declared.Refusal.{Refusal}
use Rattle.refusals.specs.declared.Refusal.TheVariants.{BoxNumber, TooFewVertices}
use Rattle.boxes.specs.declared.Box.{Box}
use Rattle.draw_polygon.specs.Polygon.{path_of, vertices, numbers}
use Rattle.draw_polygon.proofs.Vertices.{vertices_most}
use Rattle.std.specs.Prelude.{Ok, Err}
use Rattle.draw.specs.Drawing.{two_boxes_fault, drawn, list_after, drawn_into}
use Rattle.draw.proofs.Writing.{numbers_length, in_front}

module _ (a b : Box) where
  few : length (vertices a b) ≤ 8
  unfolding vertices
  few = vertices_most (path_of a b)

  module _ (old : List ℤ) where
    refused : {r : Refusal} → drawn a b (length old) ≡ Err r → (Err r ≡ drawn a b (length old)) × (old ≡ drawn_into a b old)
    unfolding drawn_into
    refused e = (sym e, sym (ap (λ d. list_after d (numbers (vertices a b)) old) e))

    pub at_fault : {place : ℕ} → two_boxes_fault a b ≡ some place → (Err (BoxNumber place) ≡ drawn a b (length old)) × (old ≡ drawn_into a b old)
    unfolding drawn
    at_fault e = refused (rw (drawn, e))

    pub too_few : two_boxes_fault a b ≡ none → length old < 16
        → (Err (TooFewVertices (length old)) ≡ drawn a b (length old)) × (old ≡ drawn_into a b old)
    unfolding drawn
    too_few e h = refused (rw (drawn, e, lt-ltb (length old) 16 h))

    pub all_drawn : {n : ℕ} {list : List ℤ} → two_boxes_fault a b ≡ none → 16 ≤ length old → n ≡ length (vertices a b)
        → list ≡ sets old 0 (numbers (vertices a b))
        → (Ok n ≡ drawn a b (length old)) × (list ≡ drawn_into a b old)
    unfolding drawn_into drawn
    all_drawn {n} e h f g =
        let d : drawn a b (length old) ≡ Ok (length (vertices a b)) = rw (drawn, e, le-ltb (length old) 16 h) in
        let room : length (numbers (vertices a b)) ≤ length old = omega (arith, numbers_length (vertices a b), few) in
        (ap Ok f ∙ sym d, g ∙ in_front (numbers (vertices a b)) old room ∙ sym (ap (λ x. list_after x (numbers (vertices a b)) old) d))
