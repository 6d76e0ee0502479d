-- The first two steps of the path, along the lowest side and on to the rightmost: each moves to the right and not down, and is an edge of the boxes'
-- points.
use mathlib.Core.Path.{◌≡◌, refl, sym, ◌∙◌, ap, subst}
use mathlib.Core.Bool.{Bool, true, false}
use mathlib.Core.Logic.{◌⊎◌, inl, inr, ⊎_elim}
use mathlib.Core.List.{[], ◌∷◌}
use lib.IntN.{ℤ, pos, ◌+ℤ◌, ◌-ℤ◌, ◌*ℤ◌}
use lib.Signed.{lt_z, ◌≤ℤ◌, ◌<ℤ◌, ≤ℤ_refl, clash_ℤ}
use Rattle.integers.proofs.Ring.{ring, sides}
use Rattle.integers.proofs.Order.{≤ℤ_trans, ≤ℤ_antisymm, le_or_lt, le_by, lt_by, clash_by, gap, gap<, balance, ◌+₀◌, ◌×₀◌, natural, lt_le}
use Rattle.integers.proofs.Ranges.{lt_yes, lt_no}
use Rattle.boxes.specs.declared.Box.{Box}
use Rattle.draw_polygon.specs.declared.Span.{Span}
use Rattle.draw_polygon.specs.declared.Point.{Point}
use Rattle.draw_polygon.specs.Polygon.{lower, higher, joined_span, reached, ends_of_spans, across_of, upright_of, path_point, path_of}
use Rattle.draw_polygon.specs.Hull.{Ordered, OfBoxes, ACorner, turn, Between, Edge, Lowest}
use Rattle.draw_polygon.proofs.Edges.{point-≡}

abbrev pt : ℤ → ℤ → Point
pt a b = record { x = a; y = b }

-- ---- lower and higher: what a comparison picks, where its order is known
module _ (a b s t : ℤ) where
  picks_first : a ≤ℤ b → (a ≡ b → t ≡ s) → ◌≡◌ {A = ℤ} (elim (lt_z a b) [ true ↦ s | false ↦ t ]) s
  picks_first h same = go (lt_z a b) refl
    where
      go : (c : Bool) → lt_z a b ≡ c → ◌≡◌ {A = ℤ} (elim c [ true ↦ s | false ↦ t ]) s
      go true e = refl
      go false e = same (≤ℤ_antisymm h (lt_no {a = a} {b = b} e))

  picks_second : b ≤ℤ a → ◌≡◌ {A = ℤ} (elim (lt_z a b) [ true ↦ s | false ↦ t ]) t
  picks_second h = go (lt_z a b) refl
    where
      go : (c : Bool) → lt_z a b ≡ c → ◌≡◌ {A = ℤ} (elim c [ true ↦ s | false ↦ t ]) t
      go true e = clash_ℤ (lt_yes {a = a} {b = b} e) h
      go false e = refl

module _ {a b : ℤ} where
  pub lower_first : a ≤ℤ b → lower a b ≡ a
  lower_first h = picks_first a b a b h sym

  pub lower_second : b ≤ℤ a → lower a b ≡ b
  lower_second h = picks_second a b a b h

  pub higher_first : b ≤ℤ a → higher a b ≡ a
  higher_first h = picks_second a b b a h

  pub higher_second : a ≤ℤ b → higher a b ≡ b
  higher_second h = picks_first a b b a h (λ e. e)

pub ≡-≤ : {a b : ℤ} → a ≡ b → a ≤ℤ b
≡-≤ {a} e = subst (λ z. a ≤ℤ z) e (≤ℤ_refl a)

pub ≥-total : (a b : ℤ) → (a ≤ℤ b) ⊎ (b ≤ℤ a)
≥-total a b = ⊎_elim inl (λ l. inr (lt_le l)) (le_or_lt a b)

module _ (a b : ℤ) where
  lower_le : (lower a b ≤ℤ a) × (lower a b ≤ℤ b)
  lower_le =
      ⊎_elim (λ h. let e = lower_first h in (≡-≤ e, ≤ℤ_trans (≡-≤ e) h)) (λ h. let e = lower_second h in (≤ℤ_trans (≡-≤ e) h, ≡-≤ e)) (≥-total a b)

  higher_ge : (a ≤ℤ higher a b) × (b ≤ℤ higher a b)
  higher_ge =
      ⊎_elim (λ h. let e = sym (higher_second h) in (≤ℤ_trans h (≡-≤ e), ≡-≤ e)) (λ h. let e = sym (higher_first h) in (≡-≤ e, ≤ℤ_trans h (≡-≤ e)))
      (≥-total a b)

-- ---- the lowest of two levels l and m with what is covered there, and the highest: a is below b where l is farther out
data End (a b l m : ℤ) (s t : Span) : ℤ → Span → Type 0 where
  first : a <ℤ b → End a b l m s t l s
  second : b <ℤ a → End a b l m s t m t
  both : l ≡ m → End a b l m s t m (joined_span s t)

module _ (a b l m : ℤ) (s t : Span) {z : ℤ} (at_first : a <ℤ b → z ≡ l) (at_second : b <ℤ a → z ≡ m) (at_both : a ≡ b → (l ≡ m) × (z ≡ m)) where
  end : End a b l m s t z (reached a b s t)
  unfolding reached
  end = go (lt_z a b) refl (lt_z b a) refl
    where
      go : (c : Bool) → lt_z a b ≡ c → (d : Bool) → lt_z b a ≡ d
          → End a b l m s t z (elim c [ true ↦ s | false ↦ elim d [ true ↦ t | false ↦ joined_span s t ] ])
      go true e d f = let h = lt_yes e in rw (at_first h) (first h)
      go false e true f = let h = lt_yes f in rw (at_second h) (second h)
      go false e false f = let h = at_both (≤ℤ_antisymm (lt_no f) (lt_no e)) in rw h.1 (both h.0)

abbrev Bottom : (l m : ℤ) (s t : Span) → ℤ → Span → Type 0
Bottom l m = End l m l m

bottom : (l m : ℤ) (s t : Span) → Bottom l m s t (lower l m) (reached l m s t)
bottom l m s t =
    end l m l m s t (λ h. lower_first (lt_le h)) (λ h. lower_second (lt_le h)) (λ e. (e, lower_second (≡-≤ (sym e))))

abbrev Top : (l m : ℤ) (s t : Span) → ℤ → Span → Type 0
Top l m = End m l l m

top : (l m : ℤ) (s t : Span) → Top l m s t (higher l m) (reached m l s t)
top l m s t = end m l l m s t (λ h. higher_first (lt_le h)) (λ h. higher_second (lt_le h)) (λ e. (sym e, higher_second (≡-≤ (sym e))))

-- ---- to the right, and not down
pub record East (u v : Point) : Type 0 where
  pub right : u.x <ℤ v.x
  pub up : u.y ≤ℤ v.y

-- a product of two numbers that are not negative is 0 only if one of them is
zero_factor : {d g : ℤ} → pos 0 <ℤ d → pos 0 ≤ℤ g → (d *ℤ g) ≤ℤ pos 0 → g ≡ pos 0
zero_factor {d} {g} h k l = ⊎_elim (λ z. ≤ℤ_antisymm z k)
    (λ z. absurd (clash_by (d ∷ g ∷ []) (gap< h ×₀ gap< z +₀ gap< h +₀ gap< z +₀ gap l) (search sides depth 40 fits 9999) refl)) (le_or_lt g (pos 0))

positive : {a b : ℤ} → a <ℤ b → pos 0 <ℤ (b -ℤ a)
positive {a} {b} h = lt_by (a ∷ b ∷ []) (gap< h) (search sides depth 20) refl

not_negative : {a b : ℤ} → a ≤ℤ b → pos 0 ≤ℤ (b -ℤ a)
not_negative {a} {b} h = le_by (a ∷ b ∷ []) (gap h) (search sides depth 20) refl

no_difference : {a b : ℤ} → (b -ℤ a) ≡ pos 0 → b ≡ a
no_difference {a} {b} e =
    ring (a ∷ b ∷ []) {b = (b -ℤ a) +ℤ a} (search sides depth 20) refl ∙ ap (λ z. z +ℤ a) e ∙ ring (a ∷ []) (search sides depth 20) refl

-- ---- along the lowest side
module _ {a b : Box} (oa : Ordered a) (ob : Ordered b) where
  pub record Floor (level : ℤ) (span : Span) : Type 0 where
    pub order : span.low ≤ℤ span.high
    pub above : (p : Point) → OfBoxes a b p → level ≤ℤ p.y
    pub among : (p : Point) → OfBoxes a b p → p.y ≡ level → (span.low ≤ℤ p.x) × (p.x ≤ℤ span.high)
    pub left_corner : ACorner a b (pt span.low level)
    pub right_corner : ACorner a b (pt span.high level)

  floor_of : {level : ℤ} {span : Span} → Bottom a.y_low b.y_low (across_of a) (across_of b) level span → Floor level span
  floor_of (first l) = record {
    order = oa.x;
    above = λ p h. ⊎_elim (λ w. w.y_from) (λ w. ≤ℤ_trans (lt_le l) w.y_from) h;
    among = λ p h e. ⊎_elim (λ w. (w.x_from, w.x_to)) (λ w. clash_ℤ l (≤ℤ_trans w.y_from (≡-≤ e))) h;
    left_corner = inl (record { x = inl refl; y = inl refl });
    right_corner = inl (record { x = inr refl; y = inl refl });
  }
  floor_of (second l) = record {
    order = ob.x;
    above = λ p h. ⊎_elim (λ w. ≤ℤ_trans (lt_le l) w.y_from) (λ w. w.y_from) h;
    among = λ p h e. ⊎_elim (λ w. clash_ℤ l (≤ℤ_trans w.y_from (≡-≤ e))) (λ w. (w.x_from, w.x_to)) h;
    left_corner = inr (record { x = inl refl; y = inl refl });
    right_corner = inr (record { x = inr refl; y = inl refl });
  }
  floor_of (both e) =
      let l = lower_le a.x_low b.x_low in
      let r = higher_ge a.x_high b.x_high in
      record {
        order = ≤ℤ_trans l.0 (≤ℤ_trans oa.x r.0);
        above = λ p h. ⊎_elim (λ w. ≤ℤ_trans (≡-≤ (sym e)) w.y_from) (λ w. w.y_from) h;
        among =
            λ p h f. ⊎_elim (λ w. (≤ℤ_trans l.0 w.x_from, ≤ℤ_trans w.x_to r.0))
            (λ w. (≤ℤ_trans l.1 w.x_from, ≤ℤ_trans w.x_to r.1)) h;
        left_corner =
            ⊎_elim (λ h. inl (record { x = inl (lower_first h); y = inl (sym e) })) (λ h. inr (record { x = inl (lower_second h); y = inl refl }))
            (≥-total a.x_low b.x_low);
        right_corner =
            ⊎_elim (λ h. inr (record { x = inr (higher_second h); y = inl refl })) (λ h. inl (record { x = inr (higher_first h); y = inl (sym e) }))
            (≥-total a.x_high b.x_high);
      }

  module _ {level : ℤ} {span : Span} (f : Floor level span) (moves : pt span.low level ≡ pt span.high level → ⊥) where
    longer : span.low <ℤ span.high
    longer = ⊎_elim (λ h. absurd (moves (point-≡ (≤ℤ_antisymm f.order h) refl))) (λ h. h) (le_or_lt span.high span.low)

    floor_east : East (pt span.low level) (pt span.high level)
    floor_east = record { right = longer; up = ≤ℤ_refl level }

    floor_edge : Edge (OfBoxes a b) (pt span.low level) (pt span.high level)
    unfolding turn
    floor_edge = record {
      left =
          λ p h. le_by (span.low ∷ span.high ∷ level ∷ p.x ∷ p.y ∷ []) (gap f.order ×₀ gap (f.above p h))
          (search sides depth 40 fits 9999) refl;
      on = λ p h z.
          let e : p.y ≡ level = no_difference (zero_factor (positive longer) (not_negative (f.above p h))
          (le_by (span.low ∷ span.high ∷ level ∷ p.x ∷ p.y ∷ []) (balance (pos 1) (sym z)) (search sides depth 40 fits 9999) refl)) in
          (inl (f.among p h e), inl (≡-≤ (sym e), ≡-≤ e));
    }

-- ---- from the lowest side to the rightmost
-- The two points are one; or they are corners of the two boxes, the second farther right and higher, and each box lies to the left of its own and
-- above.
data Slope (X : Point → Type 0) (u v : Point) : Type 0 where
  stays : u ≡ v → Slope X u v
  slopes : u.x <ℤ v.x → u.y <ℤ v.y → ((p : Point) → X p → ((p.x ≤ℤ u.x) × (u.y ≤ℤ p.y)) ⊎ ((p.x ≤ℤ v.x) × (v.y ≤ℤ p.y))) → Slope X u v

slope_of : {a b : Box} {level side : ℤ} {floor wall : Span} → Bottom a.y_low b.y_low (across_of a) (across_of b) level floor
    → Top a.x_high b.x_high (upright_of a) (upright_of b) side wall → Slope (OfBoxes a b) (pt floor.high level) (pt side wall.low)
slope_of (first l) (first r) = stays refl
slope_of (first l) (second r) = slopes r l (λ p h. ⊎_elim (λ w. inl (w.x_to, w.y_from)) (λ w. inr (w.x_to, w.y_from)) h)
slope_of (first l) (both e) = stays (point-≡ e (sym (lower_first (lt_le l))))
slope_of (second l) (first r) = slopes r l (λ p h. ⊎_elim (λ w. inr (w.x_to, w.y_from)) (λ w. inl (w.x_to, w.y_from)) h)
slope_of (second l) (second r) = stays refl
slope_of (second l) (both e) = stays (point-≡ refl (sym (lower_second (lt_le l))))
slope_of (both e) (first r) = stays (point-≡ (higher_first (lt_le r)) (sym e))
slope_of (both e) (second r) = stays (point-≡ (higher_second (lt_le r)) refl)
slope_of (both e) (both f) = stays (point-≡ (higher_second (≡-≤ f)) (sym (lower_second (≡-≤ (sym e)))))

-- both terms of a sum are 0 where it is
both_zero : {d e g h : ℤ} → pos 0 <ℤ d → pos 0 <ℤ e → pos 0 ≤ℤ g → pos 0 ≤ℤ h → (d *ℤ g +ℤ e *ℤ h) ≤ℤ pos 0 → (g ≡ pos 0) × (h ≡ pos 0)
both_zero {d} {e} {g} {h} pd pe ng nh l = (
  zero_factor pd ng (le_by (d ∷ e ∷ g ∷ h ∷ []) ((gap< pe +₀ natural 1) ×₀ gap nh +₀ gap l) (search sides depth 40 fits 9999) refl),
  zero_factor pe nh (le_by (d ∷ e ∷ g ∷ h ∷ []) ((gap< pd +₀ natural 1) ×₀ gap ng +₀ gap l) (search sides depth 40 fits 9999) refl),
)

module _ (u v : Point) (right : u.x <ℤ v.x) (up : u.y <ℤ v.y) where
  -- a point to the left of q and above, where the cross product goes by q
  beside : (p q : Point) → turn u v p ≡ (v.x -ℤ u.x) *ℤ (p.y -ℤ q.y) +ℤ (v.y -ℤ u.y) *ℤ (q.x -ℤ p.x) → (p.x ≤ℤ q.x) × (q.y ≤ℤ p.y)
      → (pos 0 ≤ℤ turn u v p) × (turn u v p ≡ pos 0 → (p.x ≡ q.x) × (p.y ≡ q.y))
  beside p q e h = (
    rw e (le_by (u.x ∷ u.y ∷ v.x ∷ v.y ∷ p.x ∷ p.y ∷ q.x ∷ q.y ∷ []) (gap (lt_le right) ×₀ gap h.1 +₀ gap (lt_le up) ×₀ gap h.0)
        (search sides depth 40 fits 9999) refl),
    λ z. let c = both_zero (positive right) (positive up) (not_negative h.1) (not_negative h.0) (≡-≤ (sym e ∙ z)) in
        (sym (no_difference c.1), no_difference c.0),
  )

  by_first : (p : Point) → turn u v p ≡ (v.x -ℤ u.x) *ℤ (p.y -ℤ u.y) +ℤ (v.y -ℤ u.y) *ℤ (u.x -ℤ p.x)
  unfolding turn
  by_first p = ring (u.x ∷ u.y ∷ v.x ∷ v.y ∷ p.x ∷ p.y ∷ []) (search sides depth 40 fits 9999) refl

  by_second : (p : Point) → turn u v p ≡ (v.x -ℤ u.x) *ℤ (p.y -ℤ v.y) +ℤ (v.y -ℤ u.y) *ℤ (v.x -ℤ p.x)
  unfolding turn
  by_second p = ring (u.x ∷ u.y ∷ v.x ∷ v.y ∷ p.x ∷ p.y ∷ []) (search sides depth 40 fits 9999) refl

  at_first : {c d e : ℤ} → d ≤ℤ e → c ≡ d → Between d e c
  at_first h e = inl (≡-≤ (sym e), ≤ℤ_trans (≡-≤ e) h)

  at_second : {c d e : ℤ} → d ≤ℤ e → c ≡ e → Between d e c
  at_second h e = inl (≤ℤ_trans h (≡-≤ (sym e)), ≡-≤ e)

  slope_edge : {X : Point → Type 0} → ((p : Point) → X p → ((p.x ≤ℤ u.x) × (u.y ≤ℤ p.y)) ⊎ ((p.x ≤ℤ v.x) × (v.y ≤ℤ p.y))) → Edge X u v
  slope_edge lies = record {
    left = λ p x. ⊎_elim (λ h. (beside p u (by_first p) h).0) (λ h. (beside p v (by_second p) h).0) (lies p x);
    on = λ p x z. ⊎_elim
        (λ h. let e = (beside p u (by_first p) h).1 z in (at_first (lt_le right) e.0, at_first (lt_le up) e.1))
        (λ h. let e = (beside p v (by_second p) h).1 z in (at_second (lt_le right) e.0, at_second (lt_le up) e.1))
        (lies p x);
  }

-- ---- the steps of the path
module _ (a b : Box) (oa : Ordered a) (ob : Ordered b) where
  pub floor : Floor oa ob (path_of a b 0).y (record { low = (path_of a b 0).x; high = (path_of a b 1).x })
  unfolding path_of path_point ends_of_spans
  floor = floor_of oa ob (bottom a.y_low b.y_low (across_of a) (across_of b))

  pub step_0 : (path_of a b 0 ≡ path_of a b 1 → ⊥) → East (path_of a b 0) (path_of a b 1) × Edge (OfBoxes a b) (path_of a b 0) (path_of a b 1)
  unfolding path_of path_point ends_of_spans
  step_0 e = (floor_east oa ob floor e, floor_edge oa ob floor e)

  pub step_1 : (path_of a b 1 ≡ path_of a b 2 → ⊥) → East (path_of a b 1) (path_of a b 2) × Edge (OfBoxes a b) (path_of a b 1) (path_of a b 2)
  unfolding path_of path_point ends_of_spans
  step_1 e = go (slope_of (bottom a.y_low b.y_low (across_of a) (across_of b)) (top a.x_high b.x_high (upright_of a) (upright_of b)))
    where
      go : Slope (OfBoxes a b) (path_of a b 1) (path_of a b 2) → East (path_of a b 1) (path_of a b 2) × Edge (OfBoxes a b) (path_of a b 1) (path_of a b 2)
      go (stays f) = absurd (e f)
      go (slopes r u lies) = (record { right = r; up = lt_le u }, slope_edge (path_of a b 1) (path_of a b 2) r u lies)

  pub corner_0 : ACorner a b (path_of a b 0)
  unfolding path_of path_point ends_of_spans
  corner_0 = floor.left_corner

  pub corner_1 : ACorner a b (path_of a b 1)
  unfolding path_of path_point ends_of_spans
  corner_1 = floor.right_corner

  pub start_lowest : Lowest (OfBoxes a b) (path_of a b 0)
  start_lowest = record { lowest = floor.above; leftmost = λ p h e. (floor.among p h e).0 }
