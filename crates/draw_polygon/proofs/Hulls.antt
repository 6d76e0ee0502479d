-- What follows for every hull, of whatever points: edges that follow one another turn strictly left; a point to the left of every edge lies between
-- the ends of one that it is in line with; one vertex is one point, two are a line; and there is one hull.
use mathlib.Core.Path.{◌≡◌, refl, sym, ◌∙◌, ap, subst}
use mathlib.Core.Logic.{◌⊎◌, inl, inr, ⊎_elim}
use mathlib.Core.List.{List, [], ◌∷◌}
use Prim.Native.Nat.{ℕ, zero, suc, ◌+◌, ◌≤◌, ◌<◌}
use native.Mathlib.Omega.{arith}
use lib.ListN.{length, get_or, get_or-append}
use lib.Seq.{get_or-append-add, ext_get_or}
use lib.IntN.{ℤ, pos, negsuc, ◌+ℤ◌, ◌-ℤ◌, ◌*ℤ◌}
use lib.Signed.{◌≤ℤ◌, ◌<ℤ◌, <ℤ_irrefl}
use Rattle.integers.proofs.Ring.{ring, sides}
use Rattle.integers.proofs.Order.{nonneg, gap, le_by, lt_le, *ℤ_cancel, ≤ℤ_antisymm, le_or_lt, lt_or_ge, clash_by, gap<, balance, ◌+₀◌, ◌×₀◌}
use Rattle.draw_polygon.specs.declared.Point.{Point}
use Rattle.draw_polygon.specs.Hull.{turn, Between, Edge, round, Lowest, Hull, AllEqual, InLine}
use Rattle.draw_polygon.proofs.Edges.{point-≡, turn_swap, turn_stay, opposite_zero, next_unique, turns_left, edge_stay}
use Rattle.draw_polygon.proofs.Walk.{origin}

-- ---- going round
module _ (vs : List Point) where
  pub round_at : (k : ℕ) → k < length vs → round vs k ≡ get_or vs k origin
  round_at k h = get_or-append vs vs origin k h

  pub round_again : (k j : ℕ) → j < length vs → k ≡ length vs + j → round vs k ≡ round vs j
  round_again k j h e = ap (round vs) e ∙ get_or-append-add vs vs j origin ∙ sym (round_at j h)

-- ---- turns
module _ {X : Point → Type 0} {vs : List Point} (h : Hull X vs) (three : 3 ≤ length vs) (k : ℕ) (l : k < length vs) where
  -- the vertex after the next, with the edge to it and the place that it has in the list
  record After : Type 0 where
    place : ℕ
    within : place < length vs
    is : round vs (suc (suc k)) ≡ round vs place
    other : round vs k ≡ round vs (suc (suc k)) → ⊥
    edge : Edge X (round vs (suc k)) (round vs (suc (suc k)))

  after : After
  after = ⊎_elim
      (λ a. record {
        place = suc (suc k);
        within = a;
        is = refl;
        other = h.once k (suc (suc k)) (omega arith) a;
        edge = h.edge (suc k) (omega arith);
      })
      (λ a. ⊎_elim
      (λ b. let e = round_again vs (suc (suc k)) 0 (omega arith) (omega arith) in
      record { place = 0; within = omega arith; is = e; other = λ z. h.once 0 k (omega arith) l (sym (z ∙ e)); edge = h.edge (suc k) b })
      (λ b.
      let e = round_again vs (suc (suc k)) 1 (omega arith) (omega arith) in
      let f = round_again vs (suc k) 0 (omega arith) (omega arith) in
      record {
        place = 1;
        within = omega arith;
        is = e;
        other = λ z. h.once 1 k (omega arith) l (sym (z ∙ e));
        edge = subst (λ p. Edge X p (round vs (suc (suc k)))) (sym f) (subst (Edge X (round vs 0)) (sym e) (h.edge 0 (omega arith)));
      })
      (lt_or_ge (suc k) (length vs)))
      (lt_or_ge (suc (suc k)) (length vs))

  pub strictly_left : pos 0 <ℤ turn (round vs k) (round vs (suc k)) (round vs (suc (suc k)))
  strictly_left =
      let a = after in
      ⊎_elim (λ e. absurd (a.other e)) (λ t. t)
      (turns_left (h.edge k l) a.edge (h.each k l) (subst X (sym a.is) (h.each a.place a.within)))

-- ---- inside: a point to the left of every edge, or on it, that lies on the line of one lies between its ends
same_sign : {d r g s : ℤ} → d *ℤ r ≡ g *ℤ s → pos 0 ≤ℤ r → pos 0 <ℤ s → (pos 0 ≤ℤ d → pos 0 ≤ℤ g) × (d ≤ℤ pos 0 → g ≤ℤ pos 0)
same_sign {d} {r} {g} {s} e hr hs = (
  λ h. *ℤ_cancel {k = s} hs (le_by (d ∷ r ∷ g ∷ s ∷ []) (nonneg h ×₀ nonneg hr +₀ balance (negsuc 0) e) (search sides depth 40 fits 9999) refl),
  λ h. *ℤ_cancel {k = s} hs (le_by (d ∷ r ∷ g ∷ s ∷ []) (gap h ×₀ nonneg hr +₀ balance (pos 1) e) (search sides depth 40 fits 9999) refl),
)

between_by : {a b c : ℤ} → (pos 0 ≤ℤ (b -ℤ a) → pos 0 ≤ℤ (c -ℤ a)) × ((b -ℤ a) ≤ℤ pos 0 → (c -ℤ a) ≤ℤ pos 0)
    → (pos 0 ≤ℤ (b -ℤ a) → pos 0 ≤ℤ (b -ℤ c)) × ((b -ℤ a) ≤ℤ pos 0 → (b -ℤ c) ≤ℤ pos 0) → Between a b c
between_by {a} {b} {c} h k =
    ⊎_elim (λ l. inl (rise (h.0 l), rise (k.0 l))) (λ l. inr (fall (k.1 (lt_le l)), fall (h.1 (lt_le l)))) (le_or_lt (pos 0) (b -ℤ a))
  where
    rise : {d e : ℤ} → pos 0 ≤ℤ (e -ℤ d) → d ≤ℤ e
    rise {d} {e} l = le_by (d ∷ e ∷ []) (gap l) (search sides depth 20) refl

    fall : {d e : ℤ} → (e -ℤ d) ≤ℤ pos 0 → e ≤ℤ d
    fall {d} {e} l = le_by (d ∷ e ∷ []) (gap l) (search sides depth 20) refl

-- one of the two coordinates
data Axis : Type 0 where
  across : Axis
  upright : Axis

abbrev along : Axis → Point → ℤ
along across q = q.x
along upright q = q.y

module _ (t u v w p : Point) (line : turn u v p ≡ pos 0) where
  ahead : (k : Axis)
      → (along k v -ℤ along k u) *ℤ turn v w p ≡ (along k v -ℤ along k p) *ℤ turn u v w +ℤ (along k w -ℤ along k v) *ℤ turn u v p
  unfolding turn
  ahead across = ring (u.x ∷ u.y ∷ v.x ∷ v.y ∷ w.x ∷ w.y ∷ p.x ∷ p.y ∷ []) (search sides depth 40 fits 9999) refl
  ahead upright = ring (u.x ∷ u.y ∷ v.x ∷ v.y ∷ w.x ∷ w.y ∷ p.x ∷ p.y ∷ []) (search sides depth 40 fits 9999) refl

  behind : (k : Axis)
      → (along k v -ℤ along k u) *ℤ turn t u p ≡ (along k p -ℤ along k u) *ℤ turn t u v +ℤ (along k u -ℤ along k t) *ℤ turn u v p
  unfolding turn
  behind across = ring (u.x ∷ u.y ∷ v.x ∷ v.y ∷ t.x ∷ t.y ∷ p.x ∷ p.y ∷ []) (search sides depth 40 fits 9999) refl
  behind upright = ring (u.x ∷ u.y ∷ v.x ∷ v.y ∷ t.x ∷ t.y ∷ p.x ∷ p.y ∷ []) (search sides depth 40 fits 9999) refl

  drop_line : (x c : ℤ) → x +ℤ c *ℤ turn u v p ≡ x
  drop_line x c = ap (λ z. x +ℤ c *ℤ z) line ∙ ring (x ∷ c ∷ []) (search sides depth 20) refl

  module _ (st : pos 0 <ℤ turn t u v) (sw : pos 0 <ℤ turn u v w) (ht : pos 0 ≤ℤ turn t u p) (hw : pos 0 ≤ℤ turn v w p) where
    between_along : (k : Axis) → Between (along k u) (along k v) (along k p)
    between_along k = between_by (same_sign (behind k ∙ drop_line ((along k p -ℤ along k u) *ℤ turn t u v) (along k u -ℤ along k t)) ht st)
        (same_sign (ahead k ∙ drop_line ((along k v -ℤ along k p) *ℤ turn u v w) (along k w -ℤ along k v)) hw sw)

    between_ends : Between u.x v.x p.x × Between u.y v.y p.y
    between_ends = (between_along across, between_along upright)

module _ {X : Point → Type 0} {vs : List Point} (h : Hull X vs) (three : 3 ≤ length vs) (p : Point)
    (left : (k : ℕ) → k < length vs → pos 0 ≤ℤ turn (round vs k) (round vs (suc k)) p) where
  -- the edge before edge k, and the edge after it
  next_left : (k : ℕ) → k < length vs → pos 0 ≤ℤ turn (round vs (suc k)) (round vs (suc (suc k))) p
  next_left k l = ⊎_elim (left (suc k))
      (λ a. subst (λ q. pos 0 ≤ℤ turn q (round vs (suc (suc k))) p) (sym (round_again vs (suc k) 0 (omega arith) (omega arith)))
      (subst (λ q. pos 0 ≤ℤ turn (round vs 0) q p) (sym (round_again vs (suc (suc k)) 1 (omega arith) (omega arith))) (left 0 (omega arith))))
      (lt_or_ge (suc k) (length vs))

  ends_at : (j : ℕ) → j < length vs → turn (round vs (suc j)) (round vs (suc (suc j))) p ≡ pos 0
      → Between (round vs (suc j)).x (round vs (suc (suc j))).x p.x × Between (round vs (suc j)).y (round vs (suc (suc j))).y p.y
  ends_at j l line = ⊎_elim
      (λ a. between_ends (round vs j) (round vs (suc j)) (round vs (suc (suc j))) (round vs (suc (suc (suc j)))) p line (strictly_left h three j l)
      (strictly_left h three (suc j) a) (left j l) (next_left (suc j) a))
      (λ a.
      let e₀ = round_again vs (suc j) 0 (omega arith) (omega arith) in
      let e₁ = round_again vs (suc (suc j)) 1 (omega arith) (omega arith) in
      between_ends (round vs j) (round vs (suc j)) (round vs (suc (suc j))) (round vs 2) p line (strictly_left h three j l)
      (subst (λ q. pos 0 <ℤ turn q (round vs (suc (suc j))) (round vs 2)) (sym e₀)
      (subst (λ q. pos 0 <ℤ turn (round vs 0) q (round vs 2)) (sym e₁) (strictly_left h three 0 (omega arith))))
      (left j l) (subst (λ q. pos 0 ≤ℤ turn q (round vs 2) p) (sym e₁) (next_left 0 (omega arith))))
      (lt_or_ge (suc j) (length vs))

  pub inside_between : (k : ℕ) → k < length vs → turn (round vs k) (round vs (suc k)) p ≡ pos 0
      → Between (round vs k).x (round vs (suc k)).x p.x × Between (round vs k).y (round vs (suc k)).y p.y
  inside_between zero l line = go (length vs) refl
    where
      go : (n : ℕ) → length vs ≡ n → Between (round vs 0).x (round vs 1).x p.x × Between (round vs 0).y (round vs 1).y p.y
      go zero e = absurd (omega arith)
      go (suc j) e =
          let e₀ = round_again vs (suc j) 0 (omega arith) (omega arith) in
          let e₁ = round_again vs (suc (suc j)) 1 (omega arith) (omega arith) in
          subst (λ q. Between q.x (round vs 1).x p.x × Between q.y (round vs 1).y p.y) e₀
          (subst (λ q. Between (round vs (suc j)).x q.x p.x × Between (round vs (suc j)).y q.y p.y) e₁
          (ends_at j (omega arith)
          (subst (λ q. turn q (round vs (suc (suc j))) p ≡ pos 0) (sym e₀) (subst (λ q. turn (round vs 0) q p ≡ pos 0) (sym e₁) line))))
  inside_between (suc j) l line = ends_at j (omega arith) line

-- ---- lines
eq_or_not : (a b : ℤ) → (a ≡ b) ⊎ (a ≡ b → ⊥)
eq_or_not a b =
    ⊎_elim (λ l. ⊎_elim (λ g. inl (≤ℤ_antisymm l g)) (λ g. inr (λ e. <ℤ_irrefl (subst (λ z. z <ℤ b) e g))) (le_or_lt b a))
    (λ g. inr (λ e. <ℤ_irrefl (subst (λ z. b <ℤ z) e g))) (le_or_lt a b)

no_factor : {d g : ℤ} → (d ≡ pos 0 → ⊥) → d *ℤ g ≡ pos 0 → g ≡ pos 0
no_factor {d} {g} n e = ⊎_elim
    (λ a. ⊎_elim (λ b. ≤ℤ_antisymm a b) (λ b. absurd (⊎_elim
    (λ c. ⊎_elim (λ z. n (≤ℤ_antisymm c z))
    (λ z. clash_by (d ∷ g ∷ []) (gap< z ×₀ gap< b +₀ gap< z +₀ gap< b +₀ balance (negsuc 0) e) (search sides depth 40 fits 9999) refl)
    (le_or_lt (pos 0) d))
    (λ c. clash_by (d ∷ g ∷ []) (gap< c ×₀ gap< b +₀ gap< c +₀ gap< b +₀ balance (pos 1) e) (search sides depth 40 fits 9999) refl)
    (le_or_lt d (pos 0)))) (le_or_lt (pos 0) g))
    (λ b. absurd (⊎_elim
    (λ c. ⊎_elim (λ z. n (≤ℤ_antisymm c z))
    (λ z. clash_by (d ∷ g ∷ []) (gap< z ×₀ gap< b +₀ gap< z +₀ gap< b +₀ balance (pos 1) e) (search sides depth 40 fits 9999) refl)
    (le_or_lt (pos 0) d))
    (λ c. clash_by (d ∷ g ∷ []) (gap< c ×₀ gap< b +₀ gap< c +₀ gap< b +₀ balance (negsuc 0) e) (search sides depth 40 fits 9999) refl)
    (le_or_lt d (pos 0))))
    (le_or_lt g (pos 0))

no_gap : {a b : ℤ} → a -ℤ b ≡ pos 0 → b ≡ a
no_gap {a} {b} e =
    ring (a ∷ b ∷ []) {b = a -ℤ (a -ℤ b)} (search sides depth 20) refl ∙ ap (λ z. a -ℤ z) e ∙ ring (a ∷ []) (search sides depth 20) refl

-- three points on the line through two others are in line
module _ (u v p q r : Point) (apart : u ≡ v → ⊥) (ep : turn u v p ≡ pos 0) (eq : turn u v q ≡ pos 0) (er : turn u v r ≡ pos 0) where
  by_x : (v.x -ℤ u.x) *ℤ turn p q r ≡ (q.x -ℤ p.x) *ℤ (turn u v r -ℤ turn u v p) -ℤ (r.x -ℤ p.x) *ℤ (turn u v q -ℤ turn u v p)
  unfolding turn
  by_x = ring (u.x ∷ u.y ∷ v.x ∷ v.y ∷ p.x ∷ p.y ∷ q.x ∷ q.y ∷ r.x ∷ r.y ∷ []) (search sides depth 40 fits 9999) refl

  by_y : (v.y -ℤ u.y) *ℤ turn p q r ≡ (q.y -ℤ p.y) *ℤ (turn u v r -ℤ turn u v p) -ℤ (r.y -ℤ p.y) *ℤ (turn u v q -ℤ turn u v p)
  unfolding turn
  by_y = ring (u.x ∷ u.y ∷ v.x ∷ v.y ∷ p.x ∷ p.y ∷ q.x ∷ q.y ∷ r.x ∷ r.y ∷ []) (search sides depth 40 fits 9999) refl

  vanish : (a b : ℤ) → a *ℤ (turn u v r -ℤ turn u v p) -ℤ b *ℤ (turn u v q -ℤ turn u v p) ≡ pos 0
  vanish a b = rw (ep, eq, er) (ring (a ∷ b ∷ []) (search sides depth 20) refl)

  in_line : turn p q r ≡ pos 0
  in_line = ⊎_elim
      (λ x. ⊎_elim (λ y. absurd (apart (point-≡ (no_gap x) (no_gap y)))) (λ y. no_factor y (by_y ∙ vanish (q.y -ℤ p.y) (r.y -ℤ p.y)))
      (eq_or_not (v.y -ℤ u.y) (pos 0)))
      (λ x. no_factor x (by_x ∙ vanish (q.x -ℤ p.x) (r.x -ℤ p.x)))
      (eq_or_not (v.x -ℤ u.x) (pos 0))

-- ---- one vertex, two vertices
module _ {X : Point → Type 0} {vs : List Point} (h : Hull X vs) where
  only_one : length vs ≡ 1 → (p : Point) → X p → p ≡ round vs 0
  only_one e p x = edge_stay (subst (Edge X (round vs 0)) (round_again vs 1 0 (omega arith) (omega arith)) (h.edge 0 (omega arith))) x

  pub one_vertex : length vs ≡ 1 → AllEqual X
  one_vertex e p q xp xq = only_one e p xp ∙ sym (only_one e q xq)

  pub vertex_one : AllEqual X → length vs ≡ 1
  vertex_one a =
      let s = h.some in ⊎_elim (λ l. absurd (h.once 0 1 (omega arith) l (a (round vs 0) (round vs 1) (h.each 0 s) (h.each 1 l))))
      (λ l. omega arith) (lt_or_ge 1 (length vs))

  on_it : length vs ≡ 2 → (p : Point) → X p → turn (round vs 0) (round vs 1) p ≡ pos 0
  on_it e p x =
      let back = subst (Edge X (round vs 1)) (round_again vs 2 0 (omega arith) (omega arith)) (h.edge 1 (omega arith)) in
      opposite_zero (turn_swap (round vs 1) (round vs 0) p) ((h.edge 0 (omega arith)).left p x) (back.left p x)

  pub two_vertices : length vs ≤ 2 → InLine X
  two_vertices m p q r xp xq xr = let s = h.some in ⊎_elim
      (λ l. let e : length vs ≡ 2 = omega arith in
      in_line (round vs 0) (round vs 1) p q r (h.once 0 1 (omega arith) (omega arith)) (on_it e p xp) (on_it e q xq) (on_it e r xr))
      (λ l. subst (λ o. turn p o r ≡ pos 0) (one_vertex (omega arith) p q xp xq) (turn_stay p r))
      (lt_or_ge 1 (length vs))

  pub vertices_two : InLine X → length vs ≤ 2
  vertices_two i = ⊎_elim
      (λ l. let e = i (round vs 0) (round vs 1) (round vs 2) (h.each 0 (omega arith)) (h.each 1 (omega arith)) (h.each 2 l) in
      absurd (<ℤ_irrefl (subst (λ z. pos 0 <ℤ z) e (strictly_left h l 0 (omega arith)))))
      (λ l. l)
      (lt_or_ge 2 (length vs))

-- ---- there is one hull
lowest_one : {X : Point → Type 0} {u v : Point} → Lowest X u → Lowest X v → X u → X v → u ≡ v
lowest_one {u} {v} l m xu xv =
    let e : u.y ≡ v.y = ≤ℤ_antisymm (l.lowest v xv) (m.lowest u xu) in
    point-≡ (≤ℤ_antisymm (l.leftmost v xv (sym e)) (m.leftmost u xu e)) e

module _ {X : Point → Type 0} {vs ws : List Point} (h : Hull X vs) (g : Hull X ws) where
  agree : (k : ℕ) → k < length vs → k < length ws → round vs k ≡ round ws k
  agree zero l m = lowest_one h.first g.first (h.each 0 l) (g.each 0 m)
  agree (suc k) l m =
      next_unique (h.edge k (omega arith))
      (subst (λ p. Edge X p (round ws (suc k))) (sym (agree k (omega arith) (omega arith))) (g.edge k (omega arith))) (h.each (suc k) l)
      (g.each (suc k) m)

  not_shorter : length vs < length ws → ⊥
  not_shorter l = go (length vs) refl
    where
      go : (n : ℕ) → length vs ≡ n → ⊥
      go zero e = let s = h.some in omega arith
      go (suc i) e =
          let s = h.some in
          let a = round_again vs (suc i) 0 s (omega arith) in
          let b = next_unique (subst (Edge X (round vs i)) a (h.edge i (omega arith)))
          (subst (λ p. Edge X p (round ws (suc i))) (sym (agree i (omega arith) (omega arith))) (g.edge i (omega arith))) (h.each 0 s)
          (g.each (suc i) (omega arith)) in
          g.once 0 (suc i) (omega arith) (omega arith) (sym (agree 0 s (omega arith)) ∙ b)

pub one_hull : {X : Point → Type 0} {vs ws : List Point} → Hull X vs → Hull X ws → vs ≡ ws
one_hull {vs} {ws} h g =
    let e : length vs ≡ length ws = ⊎_elim (λ l. absurd (not_shorter h g l))
    (λ l. ⊎_elim (λ m. absurd (not_shorter g h m)) (λ m. omega arith) (lt_or_ge (length ws) (length vs))) (lt_or_ge (length vs) (length ws)) in
    ext_get_or origin vs ws e (λ i l. sym (round_at vs i l) ∙ agree h g i l (omega arith) ∙ round_at ws i (omega arith))
