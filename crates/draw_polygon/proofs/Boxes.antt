-- The vertices of two boxes without a low above its high are the hull of the boxes' points, and each of them is a corner.
use mathlib.Core.Path.{◌≡◌, refl, sym, ◌∙◌, ap, subst}
use mathlib.Core.Logic.{inl, inr, ⊎_elim}
use mathlib.Core.List.{List, [], ◌∷◌, ◌++◌, append_assoc}
use Prim.Native.Nat.{ℕ, zero, suc, ◌+◌, ◌≤◌, ◌<◌}
use native.Mathlib.Omega.{arith}
use lib.ListN.{length, get_or, length-append, get_or-append}
use lib.Signed.{◌≤ℤ◌}
use Rattle.integers.proofs.Order.{≤ℤ_antisymm, lt_or_ge}
use Rattle.boxes.specs.declared.Box.{Box}
use Rattle.draw_polygon.specs.declared.Point.{Point}
use Rattle.draw_polygon.specs.Polygon.{moves, or_first, vertices_of, path_point, path_of, vertices}
use Rattle.draw_polygon.specs.Hull.{Ordered, InBox, Corner, OfBoxes, ACorner, Edge, round, Lowest, Hull}
use Rattle.draw_polygon.proofs.Edges.{point-≡, turn_stay, next_unique}
use Rattle.draw_polygon.proofs.Reach.{≡-≤, East, start_lowest}
use Rattle.draw_polygon.proofs.Quarter.{half, quarters, step, path_corner, above, same_heading, le_neg}
use Rattle.draw_polygon.proofs.Walk.{origin, Moves, Chain, chain_at, path_chain, path_head, met, path_once, stays}
use Rattle.draw_polygon.proofs.Hulls.{round_at}

-- ---- steps that begin at one point are one step
half_less : (k : ℕ) → half k + half k ≤ k
half_less zero = omega arith
half_less (suc zero) = omega arith
half_less (suc (suc k)) = let h = half_less k in omega arith

half_next : (j k : ℕ) → j < k → half j ≡ half k → k ≡ suc j
half_next j zero h e = absurd (omega arith)
half_next zero (suc zero) h e = refl
half_next zero (suc (suc k)) h e = absurd (omega arith)
half_next (suc zero) (suc zero) h e = absurd (omega arith)
half_next (suc zero) (suc (suc k)) h e = absurd (omega arith)
half_next (suc (suc j)) (suc zero) h e = absurd (omega arith)
half_next (suc (suc j)) (suc (suc k)) h e = ap (λ n. suc (suc n)) (half_next j k (omega arith) (omega arith))

corner_in_box : {b : Box} {p : Point} → Ordered b → Corner b p → InBox b p
corner_in_box {b} {p} o c = record {
  x_from = ⊎_elim (λ e. ≡-≤ (sym e)) (λ e. subst (λ z. b.x_low ≤ℤ z) (sym e) o.x) c.x;
  x_to = ⊎_elim (λ e. subst (λ z. z ≤ℤ b.x_high) (sym e) o.x) (λ e. ≡-≤ e) c.x;
  y_from = ⊎_elim (λ e. ≡-≤ (sym e)) (λ e. subst (λ z. b.y_low ≤ℤ z) (sym e) o.y) c.y;
  y_to = ⊎_elim (λ e. subst (λ z. z ≤ℤ b.y_high) (sym e) o.y) (λ e. ≡-≤ e) c.y;
}

module _ (a b : Box) (oa : Ordered a) (ob : Ordered b) where
  abbrev path : ℕ → Point
  path = path_of a b

  pub of_corner : {p : Point} → ACorner a b p → OfBoxes a b p
  of_corner c = ⊎_elim (λ k. inl (corner_in_box oa k)) (λ k. inr (corner_in_box ob k)) c

  path_closes : path 8 ≡ path 0
  unfolding path_of path_point
  path_closes = refl

  path_of_law : (k : ℕ) → k ≤ 8 → OfBoxes a b (path k)
  path_of_law k h = ⊎_elim (λ l. of_corner (path_corner k a b oa ob l))
      (λ l. let e : k ≡ 8 = omega arith in subst (OfBoxes a b) (sym (ap path e ∙ path_closes)) (of_corner (path_corner 0 a b oa ob (omega arith))))
      (lt_or_ge k 8)

  apart : (j k : ℕ) → j < k → k < 8 → Moves path j → Moves path k → path j ≡ path k → ⊥
  apart j k l h mj mk e =
      let s = step j a b oa ob (omega arith) mj in
      let t = step k a b oa ob h mk in
      let n = next_unique s.edge (subst (λ p. Edge (OfBoxes a b) p (path (suc k))) (sym e) t.edge) (path_of_law (suc j) (omega arith))
      (path_of_law (suc k) h) in
      let q = same_heading (path k) (path (suc k)) (half j) (half k) (omega (arith, half_less j)) (omega (arith, half_less k))
      (subst (λ p. East (quarters (half j) p) (quarters (half j) (path (suc k)))) e
      (subst (λ p. East (quarters (half j) (path j)) (quarters (half j) p)) n s.heading)) t.heading in
      mj (e ∙ ap path (half_next j k l q))

  -- ---- a path that never moves: there is one point
  only_point : moves path 8 ≡ [] → (p : Point) → OfBoxes a b p → p ≡ path 0
  only_point e p x =
      let at : (k : ℕ) → k < 8 → (quarters (half k) (path 0)).y ≤ℤ (quarters (half k) p).y =
      λ k h. subst (λ q. (quarters (half k) q).y ≤ℤ (quarters (half k) p).y) (stays path 8 e k (omega arith)) (above k a b oa ob h p x) in
      point-≡ (≤ℤ_antisymm (le_neg (at 2 (omega arith))) (le_neg (le_neg (at 6 (omega arith)))))
      (≤ℤ_antisymm (le_neg (at 4 (omega arith))) (at 0 (omega arith)))

  still : moves path 8 ≡ [] → Hull (OfBoxes a b) (path 0 ∷ [])
  still e = record {
    some = omega arith;
    each = λ k h. let z : k ≡ 0 = omega arith in subst (λ n. OfBoxes a b (round (path 0 ∷ []) n)) (sym z) (path_of_law 0 (omega arith));
    edge = λ k h. let z : k ≡ 0 = omega arith in subst (λ n. Edge (OfBoxes a b) (round (path 0 ∷ []) n) (round (path 0 ∷ []) (suc n))) (sym z) stay;
    once = λ i k l h f. omega arith;
    first = start_lowest a b oa ob;
  }
    where
      stay : Edge (OfBoxes a b) (path 0) (path 0)
      stay = record {
        left = λ p x. ≡-≤ (sym (turn_stay (path 0) p));
        on =
            λ p x z. let f = only_point e p x in
            (inl (≡-≤ (sym (ap (λ q. q.x) f)), ≡-≤ (ap (λ q. q.x) f)), inl (≡-≤ (sym (ap (λ q. q.y) f)), ≡-≤ (ap (λ q. q.y) f)));
      }

  -- ---- a path that moves
  met_corner : (q : Point) (qs : List Point) → moves path 8 ≡ q ∷ qs → (k : ℕ) → k < length (q ∷ qs) → ACorner a b (round (q ∷ qs) k)
  met_corner q qs e k h =
      let w = met path 8 k (subst (λ l. k < length l) (sym e) h) in
      subst (ACorner a b) (sym (round_at (q ∷ qs) k h ∙ ap (λ l. get_or l k origin) (sym e) ∙ w.is)) (path_corner w.place a b oa ob w.before)

  goes_round : (q : Point) (qs : List Point) → moves path 8 ≡ q ∷ qs → Hull (OfBoxes a b) (q ∷ qs)
  goes_round q qs e = record {
    some = omega arith;
    each = λ k h. of_corner (met_corner q qs e k h);
    edge = λ k h. subst (λ p. Edge (OfBoxes a b) p (round vs (suc k))) (sym (round_closed k (omega arith)))
        (subst (Edge (OfBoxes a b) (get_or closed k origin)) (sym (round_closed (suc k) h))
        (chain_at chain k (omega (arith, length-append vs (q ∷ [])))));
    once = λ i k l h f. once i k l h (sym (round_at vs i (omega arith)) ∙ f ∙ round_at vs k h);
    first = subst (Lowest (OfBoxes a b)) (sym head) (start_lowest a b oa ob);
  }
    where
      vs : List Point
      vs = q ∷ qs

      head : q ≡ path 0
      head = sym (ap (λ l. get_or (l ++ path 8 ∷ []) 0 origin) e) ∙ path_head path 8

      closed : List Point
      closed = q ∷ qs ++ q ∷ []

      chain : Chain (Edge (OfBoxes a b)) closed
      chain =
          subst (λ l. Chain (Edge (OfBoxes a b)) (l ++ q ∷ [])) e
          (subst (λ p. Chain (Edge (OfBoxes a b)) (moves path 8 ++ p ∷ [])) (path_closes ∙ sym head)
          (path_chain path 8 (λ k h m. (step k a b oa ob h m).edge) 8 (omega arith)))

      round_closed : (k : ℕ) → k ≤ length vs → round vs k ≡ get_or closed k origin
      round_closed k h =
          ap (λ l. get_or l k origin) (sym (append_assoc vs (q ∷ []) qs))
          ∙ get_or-append closed qs origin k (omega (arith, length-append vs (q ∷ [])))

      once : (i k : ℕ) → i < k → k < length vs → get_or vs i origin ≡ get_or vs k origin → ⊥
      once = subst (λ l. (i k : ℕ) → i < k → k < length l → get_or l i origin ≡ get_or l k origin → ⊥) e (path_once path 8 apart 8 (omega arith))

  pub hull_of_points : Hull (OfBoxes a b) (vertices a b)
  unfolding vertices vertices_of
  hull_of_points = go (moves path 8) refl
    where
      go : (l : List Point) → moves path 8 ≡ l → Hull (OfBoxes a b) (or_first (path 0) l)
      go [] e = still e
      go (q ∷ qs) e = goes_round q qs e

  pub each_corner : (k : ℕ) → k < length (vertices a b) → ACorner a b (round (vertices a b) k)
  unfolding vertices vertices_of
  each_corner = go (moves path 8) refl
    where
      go : (l : List Point) → moves path 8 ≡ l → (k : ℕ) → k < length (or_first (path 0) l) → ACorner a b (round (or_first (path 0) l) k)
      go [] e k h = let z : k ≡ 0 = omega arith in subst (λ n. ACorner a b (round (path 0 ∷ []) n)) (sym z) (path_corner 0 a b oa ob (omega arith))
      go (q ∷ qs) e k h = met_corner q qs e k h

-- a hull of more points, whose vertices are among fewer, is their hull
pub fewer : {X Y : Point → Type 0} {vs : List Point} → Hull Y vs → ((p : Point) → X p → Y p) → ((k : ℕ) → k < length vs → X (round vs k)) → Hull X vs
fewer h f each = record {
  some = h.some;
  each = each;
  edge = λ k l. record { left = λ p x. (h.edge k l).left p (f p x); on = λ p x z. (h.edge k l).on p (f p x) z };
  once = h.once;
  first = record { lowest = λ p x. h.first.lowest p (f p x); leftmost = λ p x e. h.first.leftmost p (f p x) e };
}
