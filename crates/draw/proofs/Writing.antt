-- The list at each step of the loop that writes the vertices: x and y of the points from which the path moved on.
use mathlib.Core.Path.{◌≡◌, refl, sym, ◌∙◌, ap, ap₂, subst}
use mathlib.Core.Bool.{true, false}
use mathlib.Core.List.{List, [], ◌∷◌, ◌++◌}
use Prim.Native.Nat.{ℕ, ◌+◌, ◌*◌, ◌≤◌}
use native.Mathlib.Nat.{zero-add, add-zero}
use native.Mathlib.Numerals.{add-one}
use native.Mathlib.Omega.{arith}
use lib.ListN.{length, drop, set, length-append}
use lib.Seq.{sets, length-sets, sets-eq}
use lib.IntN.{ℤ}
use Rattle.integers.proofs.Stores.{sets_append}
use Rattle.draw_polygon.specs.declared.Point.{Point}
use Rattle.draw_polygon.specs.Polygon.{same, unless_same, moves, or_first, vertices_of, numbers}
use Rattle.draw_polygon.proofs.Vertices.{unless_none, unless_one, moves_most}

-- ---- numbers
pub numbers_append : (ps qs : List Point) → numbers (ps ++ qs) ≡ numbers ps ++ numbers qs
unfolding numbers
numbers_append [] qs = refl
numbers_append (p ∷ ps) qs = ap (λ ns. p.x ∷ p.y ∷ ns) (numbers_append ps qs)

pub numbers_length : (ps : List Point) → length (numbers ps) ≡ 2 * length ps
unfolding numbers
numbers_length [] = refl
numbers_length (p ∷ ps) = let e = numbers_length ps in omega arith

-- two stores, one after the other
pub two_sets : (l : List ℤ) (at : ℕ) {a b a' b' : ℤ} → a' ≡ a → b' ≡ b → set (set l at a') (at + 1) b' ≡ sets l at (a ∷ b ∷ [])
two_sets l at ea eb = ap₂ (λ x y. set (set l at x) (at + 1) y) ea eb ∙ rw add-one

-- ---- one point, unless the next is the same
module _ (p q : Point) (l : List ℤ) (at n : ℕ) where
  pub unless_same_law : same p q ≡ true → (n ≡ n + length (unless_same p q)) × (l ≡ sets l at (numbers (unless_same p q)))
  unfolding numbers
  unless_same_law e = (sym (add-zero n) ∙ ap (λ x. n + length x) (sym (unless_none p q e)), ap (λ x. sets l at (numbers x)) (sym (unless_none p q e)))

  pub unless_new : {l' : List ℤ} → same p q ≡ false → l' ≡ sets l at (p.x ∷ p.y ∷ [])
      → (n + 1 ≡ n + length (unless_same p q)) × (l' ≡ sets l at (numbers (unless_same p q)))
  unfolding numbers
  unless_new e f = (ap (λ x. n + length x) (sym (unless_one p q e)), f ∙ ap (λ x. sets l at (numbers x)) (sym (unless_one p q e)))

-- ---- the loop: the list was l, and k points of the path are passed
pub record Written (f : ℕ → Point) (l : List ℤ) (k count : ℕ) (l' : List ℤ) : Type 0 where
  pub is : count ≡ length (moves f k)
  pub list : l' ≡ sets l 0 (numbers (moves f k))

module _ (f : ℕ → Point) (l : List ℤ) where
  pub written_start : Written f l 0 0 l
  unfolding moves numbers
  written_start = record { is = refl; list = refl }

  module _ {k count : ℕ} {l' : List ℤ} (w : Written f l k count l') where
    pub written_length : length l' ≡ length l
    written_length = ap length w.list ∙ length-sets l 0 (numbers (moves f k))

    pub written_most : count ≤ k
    written_most = omega (arith, w.is, moves_most f k)

    next : moves f (k + 1) ≡ moves f k ++ unless_same (f k) (f (k + 1))
    unfolding moves
    next = rw add-one

    pub written_on : {p q : Point} {count' : ℕ} {l'' : List ℤ} → p ≡ f k → q ≡ f (k + 1) → count' ≡ count + length (unless_same p q)
        → l'' ≡ sets l' (2 * count) (numbers (unless_same p q)) → Written f l (k + 1) count' l''
    written_on {p} {q} ep eq ec el =
        let u = unless_same (f k) (f (k + 1)) in
        let same_point : unless_same p q ≡ u = ap₂ unless_same ep eq in
        let ec' = ec ∙ ap (λ x. count + length x) same_point in
        record {
          is = ec' ∙ ap (λ x. x + length u) w.is ∙ sym (length-append (moves f k) u) ∙ ap length (sym next);
          list = el ∙ ap (λ x. sets l' (2 * count) (numbers x)) same_point
              ∙ ap₂ (λ x n. sets x n (numbers u)) w.list
              (ap (λ n. 2 * n) w.is ∙ sym (numbers_length (moves f k)) ∙ sym (zero-add (length (numbers (moves f k)))))
              ∙ sym (sets_append l 0 (numbers (moves f k)) (numbers u))
              ∙ ap (sets l 0) (sym (numbers_append (moves f k) u) ∙ ap numbers (sym next));
        }

  -- ---- the end: some point moved on, or none did
  no_points : (ps : List Point) → 0 ≡ length ps → ps ≡ []
  no_points [] e = refl
  no_points (p ∷ ps) e = absurd (omega arith)

  some_points : (q : Point) (ps : List Point) → (length ps ≡ 0 → ⊥) → or_first q ps ≡ ps
  some_points q [] h = absurd (h refl)
  some_points q (p ∷ ps) h = refl

  pub written_some : {k count : ℕ} {l' : List ℤ} → Written f l k count l' → k ≡ 8 → (count ≡ 0 → ⊥)
      → (count ≡ length (vertices_of f)) × (l' ≡ sets l 0 (numbers (vertices_of f)))
  unfolding vertices_of
  written_some {count} {l'} w' e8 h =
      let w = subst (λ n. Written f l n count l') e8 w' in
      rw (vertices_of, some_points (f 0) (moves f 8) (λ e. h (w.is ∙ e))) (w.is, w.list)

  pub written_none : {k count : ℕ} {l' l'' : List ℤ} {p : Point} → Written f l k count l' → k ≡ 8 → count ≡ 0 → p ≡ f 0
      → l'' ≡ sets l' (2 * 0) (p.x ∷ p.y ∷ [])
      → (1 ≡ length (vertices_of f)) × (l'' ≡ sets l 0 (numbers (vertices_of f)))
  unfolding vertices_of numbers
  written_none {count} {l'} {p} w' e8 e ep el =
      let w = subst (λ n. Written f l n count l') e8 w' in
      let none = no_points (moves f 8) (sym e ∙ w.is) in
      rw (vertices_of, none) (refl, el ∙ ap₂ (λ x q. sets x 0 (q.x ∷ q.y ∷ [])) (w.list ∙ ap (λ ps. sets l 0 (numbers ps)) none) ep)

-- ---- in front of what stood behind
pub in_front : (ns l : List ℤ) → length ns ≤ length l → sets l 0 ns ≡ ns ++ drop (length ns) l
in_front ns l h = sets-eq ns l 0 (rw zero-add h) ∙ ap (λ n. ns ++ drop n l) (zero-add (length ns))
