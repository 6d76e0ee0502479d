-- Laws of edges, for any points: the next vertex is the only one, and edges that follow one another turn left unless the second leads back.
use mathlib.Core.Path.{◌≡◌, refl, sym, ◌∙◌, ap₂}
use mathlib.Core.Logic.{◌⊎◌, inl, inr, ⊎_elim}
use mathlib.Core.List.{[], ◌∷◌}
use lib.IntN.{ℤ, pos, neg_ℤ}
use lib.Signed.{◌≤ℤ◌, ◌<ℤ◌}
use Rattle.integers.proofs.Ring.{ring, sides}
use Rattle.integers.proofs.Order.{≤ℤ_trans, ≤ℤ_antisymm, le_or_lt, le_by, gap, balance, ◌+₀◌}
use Rattle.draw_polygon.specs.declared.Point.{Point}
use Rattle.draw_polygon.specs.Hull.{turn, Between, Edge}

pub point-≡ : {p q : Point} → p.x ≡ q.x → p.y ≡ q.y → p ≡ q
point-≡ e f = ap₂ (λ a b. record { x = a; y = b }) e f

-- ---- between
between_swap : {a b c : ℤ} → Between a b c → Between b a c
between_swap (inl h) = inr h
between_swap (inr h) = inl h

-- if each of two numbers lies between a and the other, they are equal
nearer : {a b c : ℤ} → Between a b c → Between a c b → b ≡ c
nearer (inl h) (inl k) = ≤ℤ_antisymm k.1 h.1
nearer (inl h) (inr k) = ≤ℤ_antisymm (≤ℤ_trans k.1 h.0) h.1
nearer (inr h) (inl k) = ≤ℤ_antisymm h.0 (≤ℤ_trans h.1 k.0)
nearer (inr h) (inr k) = ≤ℤ_antisymm h.0 k.0

-- where the order of the ends is known
pub rising : {u v c : ℤ} → u ≤ℤ v → Between u v c → (u ≤ℤ c) × (c ≤ℤ v)
rising o (inl h) = h
rising o (inr h) = (≤ℤ_trans o h.0, ≤ℤ_trans h.1 o)

pub falling : {u v c : ℤ} → v ≤ℤ u → Between u v c → (v ≤ℤ c) × (c ≤ℤ u)
falling o (inl h) = (≤ℤ_trans o h.0, ≤ℤ_trans h.1 o)
falling o (inr h) = h

-- ---- the cross product
module _ (u v w : Point) where
  -- the turn from each of the three
  pub turn_round : turn v w u ≡ turn u v w
  unfolding turn
  turn_round = ring (u.x ∷ u.y ∷ v.x ∷ v.y ∷ w.x ∷ w.y ∷ []) (search sides depth 40 fits 9999) refl

  pub turn_back : turn u v w ≡ neg_ℤ (turn u w v)
  unfolding turn
  turn_back = ring (u.x ∷ u.y ∷ v.x ∷ v.y ∷ w.x ∷ w.y ∷ []) (search sides depth 40 fits 9999) refl

  pub turn_swap : turn v u w ≡ neg_ℤ (turn u v w)
  unfolding turn
  turn_swap = ring (u.x ∷ u.y ∷ v.x ∷ v.y ∷ w.x ∷ w.y ∷ []) (search sides depth 40 fits 9999) refl

pub turn_stay : (u p : Point) → turn u u p ≡ pos 0
unfolding turn
turn_stay u p = ring (u.x ∷ u.y ∷ p.x ∷ p.y ∷ []) (search sides depth 40 fits 9999) refl

pub opposite_zero : {a b : ℤ} → a ≡ neg_ℤ b → pos 0 ≤ℤ a → pos 0 ≤ℤ b → a ≡ pos 0
opposite_zero {a} {b} e h k = ≤ℤ_antisymm (le_by (a ∷ b ∷ []) (gap k +₀ balance (pos 1) (sym e)) (search sides depth 20) refl) h

zero_or_more : {a : ℤ} → pos 0 ≤ℤ a → (a ≡ pos 0) ⊎ (pos 0 <ℤ a)
zero_or_more {a} h = ⊎_elim (λ l. inl (≤ℤ_antisymm l h)) inr (le_or_lt a (pos 0))

module _ {X : Point → Type 0} {u v w : Point} where
  pub next_unique : Edge X u v → Edge X u w → X v → X w → v ≡ w
  next_unique e f xv xw =
      let z : turn u v w ≡ pos 0 = opposite_zero (turn_back u v w) (e.left w xw) (f.left v xv) in
      let y : turn u w v ≡ pos 0 = opposite_zero (turn_back u w v) (f.left v xv) (e.left w xw) in
      let i = e.on w xw z in
      let j = f.on v xv y in
      point-≡ (nearer i.0 j.0) (nearer i.1 j.1)

  pub turns_left : Edge X u v → Edge X v w → X u → X w → (u ≡ w) ⊎ (pos 0 <ℤ turn u v w)
  turns_left e f xu xw = ⊎_elim (λ z. inl (back z)) inr (zero_or_more (e.left w xw))
    where
      back : turn u v w ≡ pos 0 → u ≡ w
      back z =
          let i = e.on w xw z in
          let j = f.on u xu (turn_round u v w ∙ z) in
          point-≡ (nearer (between_swap i.0) j.0) (nearer (between_swap i.1) j.1)

-- an edge that stays where it is: there is only one point
pub edge_stay : {X : Point → Type 0} {u p : Point} → Edge X u u → X p → p ≡ u
edge_stay {u} {p} e x = let i = e.on p x (turn_stay u p) in point-≡ (same i.0) (same i.1)
  where
    same : {a c : ℤ} → Between a a c → c ≡ a
    same (inl h) = ≤ℤ_antisymm h.1 h.0
    same (inr h) = ≤ℤ_antisymm h.1 h.0
