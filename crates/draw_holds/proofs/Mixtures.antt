-- Every point of a cover, a mixture of the two boxes by two weights that are not both 0, lies to the left of every edge of the drawn polygon, or on
-- it between its ends.
use mathlib.Core.Path.{refl, sym, subst}
use mathlib.Core.Logic.{inl, inr, ⊎_elim}
use mathlib.Core.List.{List, [], ◌∷◌}
use Prim.Native.Nat.{ℕ, suc, ◌+◌, ◌≤◌, ◌<◌}
use native.Mathlib.Omega.{arith}
use lib.ListN.{length}
use lib.IntN.{ℤ, pos, ◌+ℤ◌, ◌-ℤ◌, ◌*ℤ◌}
use lib.Signed.{◌≤ℤ◌, ≤ℤ_refl}
use Rattle.integers.proofs.Ring.{sides}
use Rattle.integers.proofs.Order.{NonNeg, lt_or_ge, le_by, nonneg_by, gap, *ℤ_cancel, pos_lt, natural, ◌+₀◌, ◌×₀◌}
use Rattle.boxes.specs.declared.Box.{Box}
use Rattle.judge_cover.specs.Covers.{Mixed, Holds}
use Rattle.draw_polygon.specs.declared.Point.{Point}
use Rattle.draw_polygon.specs.Hull.{Ordered, OfBoxes, turn, Between, Edge, round, Hull}
use Rattle.draw_polygon.proofs.Edges.{rising, falling}
use Rattle.draw_polygon.proofs.Reach.{≥-total}
use Rattle.draw_polygon.proofs.Hulls.{round_again, inside_between, two_vertices}

module _ (u v p : Point) (m n : ℕ) (some : 0 < m + n) where
  -- the cross product at the mixture, by those at two corners (s₀, t₀) and (s₁, t₁) between which the mixture lies on the left
  by_corners : (s₀ s₁ t₀ t₁ : ℤ) → NonNeg ((v.x -ℤ u.x) *ℤ (pos (m + n) *ℤ p.y -ℤ (pos m *ℤ t₀ +ℤ pos n *ℤ t₁)))
      → NonNeg ((v.y -ℤ u.y) *ℤ ((pos m *ℤ s₀ +ℤ pos n *ℤ s₁) -ℤ pos (m + n) *ℤ p.x))
      → pos 0 ≤ℤ turn u v (record { x = s₀; y = t₀ }) → pos 0 ≤ℤ turn u v (record { x = s₁; y = t₁ }) → pos 0 ≤ℤ turn u v p
  unfolding turn
  by_corners s₀ s₁ t₀ t₁ hy hx h₀ h₁ =
      *ℤ_cancel {k = pos (m + n)} (pos_lt some)
      (le_by (u.x ∷ u.y ∷ v.x ∷ v.y ∷ p.x ∷ p.y ∷ s₀ ∷ s₁ ∷ t₀ ∷ t₁ ∷ pos m ∷ pos n ∷ [])
      (hy +₀ hx +₀ natural m ×₀ gap h₀ +₀ natural n ×₀ gap h₁) (search sides depth 40 fits 9999) refl)

  -- a product of two numbers that are both not negative, or both not positive
  up : {c d e f : ℤ} → c ≤ℤ d → e ≤ℤ f → NonNeg ((d -ℤ c) *ℤ (f -ℤ e))
  up h k = gap h ×₀ gap k

  down : {c d e f : ℤ} → d ≤ℤ c → f ≤ℤ e → NonNeg ((d -ℤ c) *ℤ (f -ℤ e))
  down {c} {d} {e} {f} h k = nonneg_by (c ∷ d ∷ e ∷ f ∷ []) (gap h ×₀ gap k) (search sides depth 20) refl

  module _ {a b : Box} (oa : Ordered a) (ob : Ordered b) (edge : Edge (OfBoxes a b) u v)
      (mx : Mixed m n a.x_low a.x_high b.x_low b.x_high p.x)
      (my : Mixed m n a.y_low a.y_high b.y_low b.y_high p.y) where
    mixture_left : pos 0 ≤ℤ turn u v p
    mixture_left = ⊎_elim
        (λ dx. ⊎_elim
        (λ dy. by_corners a.x_high b.x_high a.y_low b.y_low (up dx my.low) (up dy mx.high)
        (edge.left _ (inl (record { x_from = oa.x; x_to = ≤ℤ_refl _; y_from = ≤ℤ_refl _; y_to = oa.y })))
        (edge.left _ (inr (record { x_from = ob.x; x_to = ≤ℤ_refl _; y_from = ≤ℤ_refl _; y_to = ob.y }))))
        (λ dy. by_corners a.x_low b.x_low a.y_low b.y_low (up dx my.low) (down dy mx.low)
        (edge.left _ (inl (record { x_from = ≤ℤ_refl _; x_to = oa.x; y_from = ≤ℤ_refl _; y_to = oa.y })))
        (edge.left _ (inr (record { x_from = ≤ℤ_refl _; x_to = ob.x; y_from = ≤ℤ_refl _; y_to = ob.y }))))
        (≥-total u.y v.y))
        (λ dx. ⊎_elim
        (λ dy. by_corners a.x_high b.x_high a.y_high b.y_high (down dx my.high) (up dy mx.high)
        (edge.left _ (inl (record { x_from = oa.x; x_to = ≤ℤ_refl _; y_from = oa.y; y_to = ≤ℤ_refl _ })))
        (edge.left _ (inr (record { x_from = ob.x; x_to = ≤ℤ_refl _; y_from = ob.y; y_to = ≤ℤ_refl _ }))))
        (λ dy. by_corners a.x_low b.x_low a.y_high b.y_high (down dx my.high) (down dy mx.low)
        (edge.left _ (inl (record { x_from = ≤ℤ_refl _; x_to = oa.x; y_from = oa.y; y_to = ≤ℤ_refl _ })))
        (edge.left _ (inr (record { x_from = ≤ℤ_refl _; x_to = ob.x; y_from = ob.y; y_to = ≤ℤ_refl _ }))))
        (≥-total u.y v.y))
        (≥-total u.x v.x)

-- ---- a mixture of numbers between u and v lies between them
module _ {m n : ℕ} (some : 0 < m + n) {l₀ h₀ l₁ h₁ z : ℤ} (mix : Mixed m n l₀ h₀ l₁ h₁ z) where
  from_low : (u : ℤ) → u ≤ℤ l₀ → u ≤ℤ l₁ → u ≤ℤ z
  from_low u a b = *ℤ_cancel {k = pos (m + n)} (pos_lt some)
      (le_by (pos m ∷ pos n ∷ l₀ ∷ l₁ ∷ z ∷ u ∷ []) (gap mix.low +₀ natural m ×₀ gap a +₀ natural n ×₀ gap b)
      (search sides depth 40 fits 9999) refl)

  to_high : (v : ℤ) → h₀ ≤ℤ v → h₁ ≤ℤ v → z ≤ℤ v
  to_high v a b = *ℤ_cancel {k = pos (m + n)} (pos_lt some)
      (le_by (pos m ∷ pos n ∷ h₀ ∷ h₁ ∷ z ∷ v ∷ []) (gap mix.high +₀ natural m ×₀ gap a +₀ natural n ×₀ gap b)
      (search sides depth 40 fits 9999) refl)

  between_mix : (u v : ℤ) → Between u v l₀ → Between u v h₀ → Between u v l₁ → Between u v h₁ → Between u v z
  between_mix u v a b c d = ⊎_elim
      (λ o. inl (from_low u (rising o a).0 (rising o c).0, to_high v (rising o b).1 (rising o d).1))
      (λ o. inr (from_low v (falling o a).0 (falling o c).0, to_high u (falling o b).1 (falling o d).1))
      (≥-total u v)

-- ---- the points of a cover
abbrev pub Held : Box → Box → Point → Type 0
Held a b p = Holds a b p.x p.y

-- of two boxes without a low above its high, and of their hull
module _ {a b : Box} (oa : Ordered a) (ob : Ordered b) {vs : List Point} (hull : Hull (OfBoxes a b) vs) where
  pub cover_left : (p : Point) → Held a b p → (k : ℕ) → k < length vs → pos 0 ≤ℤ turn (round vs k) (round vs (suc k)) p
  cover_left p c k h =
      mixture_left (round vs k) (round vs (suc k)) p c.a c.b c.some oa ob (hull.edge k h) c.in_x c.in_y

  vertex_of : (k : ℕ) → k ≤ length vs → OfBoxes a b (round vs k)
  vertex_of k h = ⊎_elim (hull.each k)
      (λ l. subst (OfBoxes a b) (sym (round_again vs k 0 hull.some (omega arith))) (hull.each 0 hull.some)) (lt_or_ge k (length vs))

  -- one or two vertices: all corners lie on the edge
  module _ (few : length vs ≤ 2) (k : ℕ) (h : k < length vs) where
    on_edge : (q : Point) → OfBoxes a b q
        → Between (round vs k).x (round vs (suc k)).x q.x × Between (round vs k).y (round vs (suc k)).y q.y
    on_edge q x =
        (hull.edge k h).on q x (two_vertices hull few (round vs k) (round vs (suc k)) q (vertex_of k (omega arith)) (vertex_of (suc k) h) x)

    flat_between : (p : Point) → Held a b p
        → Between (round vs k).x (round vs (suc k)).x p.x × Between (round vs k).y (round vs (suc k)).y p.y
    flat_between p c =
        let la = on_edge (record { x = a.x_low; y = a.y_low })
        (inl (record { x_from = ≤ℤ_refl _; x_to = oa.x; y_from = ≤ℤ_refl _; y_to = oa.y })) in
        let ha = on_edge (record { x = a.x_high; y = a.y_high })
        (inl (record { x_from = oa.x; x_to = ≤ℤ_refl _; y_from = oa.y; y_to = ≤ℤ_refl _ })) in
        let lb = on_edge (record { x = b.x_low; y = b.y_low })
        (inr (record { x_from = ≤ℤ_refl _; x_to = ob.x; y_from = ≤ℤ_refl _; y_to = ob.y })) in
        let hb = on_edge (record { x = b.x_high; y = b.y_high })
        (inr (record { x_from = ob.x; x_to = ≤ℤ_refl _; y_from = ob.y; y_to = ≤ℤ_refl _ })) in (
          between_mix c.some c.in_x (round vs k).x (round vs (suc k)).x la.0 ha.0 lb.0 hb.0,
          between_mix c.some c.in_y (round vs k).y (round vs (suc k)).y la.1 ha.1 lb.1 hb.1,
        )

  -- Every point of the cover lies to the left of every edge of the polygon, or on it between its ends: for one and two vertices as well.
  pub cover_edge : (k : ℕ) → k < length vs → Edge (Held a b) (round vs k) (round vs (suc k))
  cover_edge k h = record {
    left = λ p c. cover_left p c k h;
    on =
        λ p c z. ⊎_elim (λ t. inside_between hull t p (cover_left p c) k h z) (λ f. flat_between f k h p c) (lt_or_ge 2 (length vs));
  }
