-- The points from which a path moves on: one or none at each step, and at most as many as there are steps.
use mathlib.Core.Path.{◌≡◌, refl, ap}
use mathlib.Core.Bool.{Bool, true, false}
use mathlib.Core.List.{List, [], ◌∷◌}
use Prim.Native.Nat.{ℕ, zero, suc, ◌≤◌}
use native.Mathlib.Omega.{arith}
use lib.ListN.{length, length-append}
use Rattle.draw_polygon.specs.declared.Point.{Point}
use Rattle.draw_polygon.specs.Polygon.{same, unless_same, moves, or_first, vertices_of}

-- ---- one point, unless the next is the same
module _ (p q : Point) where
  pub unless_none : same p q ≡ true → unless_same p q ≡ []
  unless_none e = rw (e, unless_same)

  pub unless_one : same p q ≡ false → unless_same p q ≡ p ∷ []
  unless_one e = rw (e, unless_same)

  unless_few : length (unless_same p q) ≤ 1
  unless_few = go (same p q) refl
    where
      go : (t : Bool) → same p q ≡ t → length (unless_same p q) ≤ 1
      go true e = let u = ap length (unless_none e) in omega arith
      go false e = let u = ap length (unless_one e) in omega arith

-- ---- at most as many vertices as points
module _ (f : ℕ → Point) where
  pub moves_most : (n : ℕ) → length (moves f n) ≤ n
  unfolding moves
  moves_most zero = omega arith
  moves_most (suc n) =
      let h = moves_most n in let u = unless_few (f n) (f (suc n)) in let e = length-append (moves f n) (unless_same (f n) (f (suc n))) in omega arith

  first_most : (p : Point) (ps : List Point) → length ps ≤ 8 → length (or_first p ps) ≤ 8
  first_most p [] h = omega arith
  first_most p (q ∷ qs) h = h

  pub vertices_most : length (vertices_of f) ≤ 8
  unfolding vertices_of
  vertices_most = first_most (f 0) (moves f 8) (moves_most 8)
