-- The path of two boxes turned by a quarter is the path, turned, two steps on. So what holds of the first two steps holds of all eight.
use mathlib.Core.Path.{◌≡◌, refl, sym, ◌∙◌, ap, ap₂, subst}
use mathlib.Core.Bool.{Bool, true, false}
use mathlib.Core.Logic.{◌⊎◌, inl, inr, ⊎_elim}
use mathlib.Core.List.{[], ◌∷◌}
use Prim.Native.Nat.{ℕ, zero, suc, ◌≤◌, ◌<◌}
use native.Mathlib.Omega.{arith}
use lib.IntN.{ℤ, pos, neg_ℤ, neg_ℤ-neg_ℤ}
use lib.Signed.{lt_z, ◌≤ℤ◌, ◌<ℤ◌, clash_ℤ}
use Rattle.integers.proofs.Ring.{ring, sides}
use Rattle.integers.proofs.Order.{le_by, lt_by, gap, gap<, lt_le, lt_or_ge}
use Rattle.integers.proofs.Ranges.{lt_yes, lt_no, yes_lt, no_lt}
use Rattle.boxes.specs.declared.Box.{Box}
use Rattle.draw_polygon.specs.declared.Span.{Span}
use Rattle.draw_polygon.specs.declared.Point.{Point}
use Rattle.draw_polygon.specs.declared.Ends.{Ends}
use Rattle.draw_polygon.specs.Polygon.{lower, higher, joined_span, reached, ends_of_spans, across_of, upright_of, path_point, path_of}
use Rattle.draw_polygon.specs.Hull.{Ordered, OfBoxes, ACorner, turn, Between, Edge}
use Rattle.draw_polygon.proofs.Edges.{point-≡}
use Rattle.draw_polygon.proofs.Reach.{lower_first, lower_second, higher_first, higher_second, ≥-total, East, floor, step_0, step_1, corner_0}
use Rattle.draw_polygon.proofs.Reach.{corner_1}

-- ---- a quarter turn, clockwise: right becomes down
abbrev pub quarter : Point → Point
quarter p = record { x = p.y; y = neg_ℤ p.x }

abbrev quarter_box : Box → Box
quarter_box b = record { x_low = b.y_low; x_high = b.y_high; y_low = neg_ℤ b.x_high; y_high = neg_ℤ b.x_low }

abbrev neg_span : Span → Span
neg_span s = record { low = neg_ℤ s.high; high = neg_ℤ s.low }

-- ---- orders of negated numbers
neg_le : {a b : ℤ} → a ≤ℤ b → neg_ℤ b ≤ℤ neg_ℤ a
neg_le {a} {b} h = le_by (a ∷ b ∷ []) (gap h) (search sides depth 20) refl

pub le_neg : {a b : ℤ} → neg_ℤ a ≤ℤ neg_ℤ b → b ≤ℤ a
le_neg {a} {b} h = le_by (a ∷ b ∷ []) (gap h) (search sides depth 20) refl

neg_lt : {a b : ℤ} → a <ℤ b → neg_ℤ b <ℤ neg_ℤ a
neg_lt {a} {b} h = lt_by (a ∷ b ∷ []) (gap< h) (search sides depth 20) refl

neg-≡ : {a b : ℤ} → neg_ℤ a ≡ neg_ℤ b → a ≡ b
neg-≡ {a} {b} e = sym (neg_ℤ-neg_ℤ a) ∙ ap neg_ℤ e ∙ neg_ℤ-neg_ℤ b

less_neg : (a b : ℤ) → lt_z (neg_ℤ a) (neg_ℤ b) ≡ lt_z b a
less_neg a b = go (lt_z b a) refl
  where
    go : (c : Bool) → lt_z b a ≡ c → lt_z (neg_ℤ a) (neg_ℤ b) ≡ c
    go true e = yes_lt (neg_lt (lt_yes {a = b} {b = a} e))
    go false e = no_lt (neg_le (lt_no {a = b} {b = a} e))

lower_neg : (a b : ℤ) → lower (neg_ℤ a) (neg_ℤ b) ≡ neg_ℤ (higher a b)
lower_neg a b =
    ⊎_elim (λ h. lower_second (neg_le h) ∙ ap neg_ℤ (sym (higher_second h))) (λ h. lower_first (neg_le h) ∙ ap neg_ℤ (sym (higher_first h)))
    (≥-total a b)

higher_neg : (a b : ℤ) → higher (neg_ℤ a) (neg_ℤ b) ≡ neg_ℤ (lower a b)
higher_neg a b =
    ⊎_elim (λ h. higher_first (neg_le h) ∙ ap neg_ℤ (sym (lower_first h))) (λ h. higher_second (neg_le h) ∙ ap neg_ℤ (sym (lower_second h)))
    (≥-total a b)

joined_neg : (s t : Span) → joined_span (neg_span s) (neg_span t) ≡ neg_span (joined_span s t)
joined_neg s t = ap₂ (λ l h. record { low = l; high = h }) (lower_neg s.high t.high) (higher_neg s.low t.low)

module _ (a b : ℤ) (s t : Span) where
  reached_levels : reached (neg_ℤ a) (neg_ℤ b) s t ≡ reached b a s t
  unfolding reached
  reached_levels =
      ap₂ (λ (c d : Bool). elim c as (λ _. Span) [ true ↦ s | false ↦ elim d as (λ _. Span) [ true ↦ t | false ↦ joined_span s t ] ]) (less_neg a b)
      (less_neg b a)

  reached_spans : reached a b (neg_span s) (neg_span t) ≡ neg_span (reached a b s t)
  unfolding reached
  reached_spans = go (lt_z a b) (lt_z b a)
    where
      go : (c d : Bool) → ◌≡◌ {A = Span}
          (elim c [ true ↦ neg_span s | false ↦ elim d [ true ↦ neg_span t | false ↦ joined_span (neg_span s) (neg_span t) ] ])
          (neg_span (elim c [ true ↦ s | false ↦ elim d [ true ↦ t | false ↦ joined_span s t ] ]))
      go true d = refl
      go false true = refl
      go false false = joined_neg s t

module _ (l m s t : Span) where
  ends_levels : ends_of_spans (neg_span l) (neg_span m) s t
      ≡ record { levels = neg_span (ends_of_spans l m s t).levels; lowest = (ends_of_spans l m s t).highest; highest = (ends_of_spans l m s t).lowest }
  unfolding ends_of_spans
  ends_levels =
      ap₂ (λ j p. record { levels = j; lowest = p; highest = reached (neg_ℤ m.low) (neg_ℤ l.low) s t }) (joined_neg l m)
      (reached_levels l.high m.high s t)
      ∙ ap (λ q. record { levels = neg_span (joined_span l m); lowest = reached m.high l.high s t; highest = q })
      (reached_levels m.low l.low s t)

  ends_spans : ends_of_spans l m (neg_span s) (neg_span t)
      ≡ record {
        levels = (ends_of_spans l m s t).levels;
        lowest = neg_span (ends_of_spans l m s t).lowest;
        highest = neg_span (ends_of_spans l m s t).highest;
      }
  unfolding ends_of_spans
  ends_spans =
      ap₂ (λ p q. record { levels = joined_span l m; lowest = p; highest = q }) (reached_spans l.low m.low s t)
      (reached_spans m.high l.high s t)

-- ---- the path
points_quarter : (v w : Ends) (k : ℕ) → k ≤ 6
    → path_point (record { levels = neg_span w.levels; lowest = w.highest; highest = w.lowest })
    (record { levels = v.levels; lowest = neg_span v.lowest; highest = neg_span v.highest }) k
    ≡ quarter (path_point v w (suc (suc k)))
unfolding path_point
points_quarter v w zero h = refl
points_quarter v w (suc zero) h = refl
points_quarter v w (suc (suc zero)) h = refl
points_quarter v w (suc (suc (suc zero))) h = refl
points_quarter v w (suc (suc (suc (suc zero)))) h = refl
points_quarter v w (suc (suc (suc (suc (suc zero))))) h = refl
points_quarter v w (suc (suc (suc (suc (suc (suc zero)))))) h = refl
points_quarter v w (suc (suc (suc (suc (suc (suc (suc k))))))) h = absurd (omega arith)

module _ (a b : Box) where
  path_quarter : (k : ℕ) → k ≤ 6 → path_of (quarter_box a) (quarter_box b) k ≡ quarter (path_of a b (suc (suc k)))
  unfolding path_of
  path_quarter k h =
      ap₂ (λ v w. path_point v w k) (ends_levels (across_of a) (across_of b) (upright_of a) (upright_of b))
      (ends_spans (upright_of a) (upright_of b) (across_of a) (across_of b))
      ∙ points_quarter (ends_of_spans (upright_of a) (upright_of b) (across_of a) (across_of b))
      (ends_of_spans (across_of a) (across_of b) (upright_of a) (upright_of b)) k h

  -- ---- what a turn keeps
  of_boxes_quarter : {p : Point} → OfBoxes a b p → OfBoxes (quarter_box a) (quarter_box b) (quarter p)
  of_boxes_quarter h = ⊎_elim (λ w. inl (record { x_from = w.y_from; x_to = w.y_to; y_from = neg_le w.x_to; y_to = neg_le w.x_from }))
      (λ w. inr (record { x_from = w.y_from; x_to = w.y_to; y_from = neg_le w.x_to; y_to = neg_le w.x_from })) h

  corner_back : {p : Point} → ACorner (quarter_box a) (quarter_box b) (quarter p) → ACorner a b p
  corner_back h = ⊎_elim (λ c. inl (record { x = side c.y; y = c.x })) (λ c. inr (record { x = side c.y; y = c.x })) h
    where
      side : {c l m : ℤ} → (neg_ℤ c ≡ neg_ℤ m) ⊎ (neg_ℤ c ≡ neg_ℤ l) → (c ≡ l) ⊎ (c ≡ m)
      side (inl e) = inr (neg-≡ e)
      side (inr e) = inl (neg-≡ e)

  turn_quarter : (u v p : Point) → turn (quarter u) (quarter v) (quarter p) ≡ turn u v p
  unfolding turn
  turn_quarter u v p = ring (u.x ∷ u.y ∷ v.x ∷ v.y ∷ p.x ∷ p.y ∷ []) (search sides depth 40 fits 9999) refl

  between_neg : {c l m : ℤ} → Between (neg_ℤ l) (neg_ℤ m) (neg_ℤ c) → Between l m c
  between_neg (inl h) = inr (le_neg h.1, le_neg h.0)
  between_neg (inr h) = inl (le_neg h.1, le_neg h.0)

  edge_back : {u v : Point} → Edge (OfBoxes (quarter_box a) (quarter_box b)) (quarter u) (quarter v) → Edge (OfBoxes a b) u v
  edge_back {u} {v} e = record {
    left = λ p h. subst (λ z. pos 0 ≤ℤ z) (turn_quarter u v p) (e.left (quarter p) (of_boxes_quarter h));
    on = λ p h z. let i = e.on (quarter p) (of_boxes_quarter h) (turn_quarter u v p ∙ z) in (between_neg i.1, i.0);
  }

quarter_ordered : {b : Box} → Ordered b → Ordered (quarter_box b)
quarter_ordered o = record { x = o.y; y = neg_le o.x }

quarter-≡ : {p q : Point} → quarter p ≡ quarter q → p ≡ q
quarter-≡ e = point-≡ (neg-≡ (ap (λ r. r.y) e)) (ap (λ r. r.x) e)

-- ---- all eight steps
-- how many quarters step k lies on, and a point turned so many times
abbrev pub half : ℕ → ℕ
half zero = 0
half (suc zero) = 0
half (suc (suc k)) = suc (half k)

abbrev pub quarters : ℕ → Point → Point
quarters zero p = p
quarters (suc j) p = quarters j (quarter p)

-- Step k, which moves: seen turned, it leads to the right and not down, and it is an edge.
pub record Step (a b : Box) (k : ℕ) : Type 0 where
  pub heading : East (quarters (half k) (path_of a b k)) (quarters (half k) (path_of a b (suc k)))
  pub edge : Edge (OfBoxes a b) (path_of a b k) (path_of a b (suc k))

pub step : (k : ℕ) (a b : Box) → Ordered a → Ordered b → k < 8 → (path_of a b k ≡ path_of a b (suc k) → ⊥) → Step a b k
step zero a b oa ob h m = let s = step_0 a b oa ob m in record { heading = s.0; edge = s.1 }
step (suc zero) a b oa ob h m = let s = step_1 a b oa ob m in record { heading = s.0; edge = s.1 }
step (suc (suc k)) a b oa ob h m =
    let e = path_quarter a b k (omega arith) in
    let f = path_quarter a b (suc k) (omega arith) in
    let s = step k (quarter_box a) (quarter_box b) (quarter_ordered oa) (quarter_ordered ob) (omega arith) (λ z. m (quarter-≡ (sym e ∙ z ∙ f))) in
    record {
      heading = subst (λ p. East (quarters (half k) p) (quarters (half k) (quarter (path_of a b (suc (suc (suc k))))))) e
          (subst (λ q. East (quarters (half k) (path_of (quarter_box a) (quarter_box b) k)) (quarters (half k) q)) f s.heading);
      edge = edge_back a b (subst (λ p. Edge (OfBoxes (quarter_box a) (quarter_box b)) p (quarter (path_of a b (suc (suc (suc k)))))) e
          (subst (λ q. Edge (OfBoxes (quarter_box a) (quarter_box b)) (path_of (quarter_box a) (quarter_box b) k) q) f s.edge));
    }

pub path_corner : (k : ℕ) (a b : Box) → Ordered a → Ordered b → k < 8 → ACorner a b (path_of a b k)
path_corner zero a b oa ob h = corner_0 a b oa ob
path_corner (suc zero) a b oa ob h = corner_1 a b oa ob
path_corner (suc (suc k)) a b oa ob h = corner_back a b (subst (ACorner (quarter_box a) (quarter_box b)) (path_quarter a b k (omega arith))
    (path_corner k (quarter_box a) (quarter_box b) (quarter_ordered oa) (quarter_ordered ob) (omega arith)))

-- seen turned, no point of the boxes lies below point k
pub above : (k : ℕ) (a b : Box) → Ordered a → Ordered b → k < 8 → (p : Point) → OfBoxes a b p
    → (quarters (half k) (path_of a b k)).y ≤ℤ (quarters (half k) p).y
unfolding path_of path_point
above zero a b oa ob h p x = (floor a b oa ob).above p x
above (suc zero) a b oa ob h p x = (floor a b oa ob).above p x
above (suc (suc k)) a b oa ob h p x = subst (λ q. (quarters (half k) q).y ≤ℤ (quarters (half k) (quarter p)).y) (path_quarter a b k (omega arith))
    (above k (quarter_box a) (quarter_box b) (quarter_ordered oa) (quarter_ordered ob) (omega arith) (quarter p) (of_boxes_quarter a b x))

-- ---- a way has one heading only
one_heading : (u v : Point) (i j : ℕ) → i < j → j < 4 → East (quarters i u) (quarters i v) → East (quarters j u) (quarters j v) → ⊥
one_heading u v i zero h l e f = absurd (omega arith)
one_heading u v (suc i) (suc j) h l e f = one_heading (quarter u) (quarter v) i j (omega arith) (omega arith) e f
one_heading u v zero (suc zero) h l e f = clash_ℤ e.right (le_neg f.up)
one_heading u v zero (suc (suc zero)) h l e f = clash_ℤ e.right (le_neg (lt_le f.right))
one_heading u v zero (suc (suc (suc zero))) h l e f = clash_ℤ f.right (neg_le e.up)
one_heading u v zero (suc (suc (suc (suc j)))) h l e f = absurd (omega arith)

pub same_heading : (u v : Point) (i j : ℕ) → i < 4 → j < 4 → East (quarters i u) (quarters i v) → East (quarters j u) (quarters j v) → i ≡ j
same_heading u v i j h l e f = ⊎_elim (λ a. absurd (one_heading u v i j a l e f))
    (λ a. ⊎_elim (λ c. absurd (one_heading u v j i c h f e)) (λ c. omega arith) (lt_or_ge j i)) (lt_or_ge i j)
