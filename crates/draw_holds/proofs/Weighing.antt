-- What a cover holds is convex: a weighted mean of points of the two boxes, with whole coordinates and weights that are not negative and not all 0,
-- is held.
use mathlib.Core.Path.{◌≡◌, refl, sym, ◌∙◌, ap, ap₂, subst}
use mathlib.Core.Logic.{inl, inr, ⊎_elim}
use mathlib.Core.List.{List, [], ◌∷◌}
use Prim.Native.Nat.{ℕ, ◌+◌}
use lib.IntN.{ℤ, pos, negsuc, neg_ℤ, ◌+ℤ◌, ◌*ℤ◌}
use lib.Signed.{◌≤ℤ◌, ◌<ℤ◌, lt_z_yes}
use Rattle.integers.proofs.Ring.{ring, sides}
use Rattle.integers.proofs.Order.{NonNeg, gap, gap<, natural, le_by, lt_by, lt_pos, le_or_lt, lt_le, ≤ℤ_antisymm, ◌+₀◌, ◌×₀◌}
use Rattle.boxes.specs.declared.Box.{Box}
use Rattle.judge_cover.specs.Covers.{Mixed}
use Rattle.draw_polygon.specs.declared.Point.{Point}
use Rattle.draw_polygon.specs.Hull.{OfBoxes, turn, Between}
use Rattle.draw_polygon.proofs.Edges.{point-≡, turn_swap, rising, falling}
use Rattle.draw_holds.specs.InPolygon.{OnSegment}
use Rattle.draw_holds.proofs.Mixtures.{Held}

-- a sum lies between m lows of the first box with n of the second, and as many highs
pub record Summed (m n : ℕ) (low₀ high₀ low₁ high₁ sum : ℤ) : Type 0 where
  low : (pos m *ℤ low₀ +ℤ pos n *ℤ low₁) ≤ℤ sum
  high : sum ≤ℤ (pos m *ℤ high₀ +ℤ pos n *ℤ high₁)

both_summed : {m n k l : ℕ} {low₀ high₀ low₁ high₁ s t : ℤ} → Summed m n low₀ high₀ low₁ high₁ s → Summed k l low₀ high₀ low₁ high₁ t
    → Summed (m + k) (n + l) low₀ high₀ low₁ high₁ (s +ℤ t)
both_summed {m} {n} {k} {l} {low₀} {high₀} {low₁} {high₁} {s} {t} f g = record {
  low =
      le_by (pos m ∷ pos n ∷ pos k ∷ pos l ∷ low₀ ∷ low₁ ∷ s ∷ t ∷ []) (gap f.low +₀ gap g.low) (search sides depth 40 fits 9999) refl;
  high =
      le_by (pos m ∷ pos n ∷ pos k ∷ pos l ∷ high₀ ∷ high₁ ∷ s ∷ t ∷ []) (gap f.high +₀ gap g.high) (search sides depth 40 fits 9999) refl;
}

module _ {l h z : ℤ} (k : ℕ) (f : l ≤ℤ z) (t : z ≤ℤ h) (low high : ℤ) where
  by_first : Summed k 0 l h low high (pos k *ℤ z)
  by_first = record {
    low = le_by (pos k ∷ l ∷ z ∷ low ∷ []) (natural k ×₀ gap f) (search sides depth 40) refl;
    high = le_by (pos k ∷ h ∷ z ∷ high ∷ []) (natural k ×₀ gap t) (search sides depth 40) refl;
  }

  by_second : Summed 0 k low high l h (pos k *ℤ z)
  by_second = record {
    low = le_by (pos k ∷ l ∷ z ∷ low ∷ []) (natural k ×₀ gap f) (search sides depth 40) refl;
    high = le_by (pos k ∷ h ∷ z ∷ high ∷ []) (natural k ×₀ gap t) (search sides depth 40) refl;
  }

-- a sum (x, y) of points of two boxes, whose weights come to w
module _ (a b : Box) where
  pub record Weighed (w x y : ℤ) : Type 0 where
    first : ℕ
    second : ℕ
    weight : pos (first + second) ≡ w
    in_x : Summed first second a.x_low a.x_high b.x_low b.x_high x
    in_y : Summed first second a.y_low a.y_high b.y_low b.y_high y

module _ {a b : Box} where
  -- one point
  pub weighed : {w : ℤ} {p : Point} → NonNeg w → OfBoxes a b p → Weighed a b w (w *ℤ p.x) (w *ℤ p.y)
  weighed {w = pos k} n (inl h) = record {
    first = k;
    second = 0;
    weight = ring (pos k ∷ []) (search sides depth 20) refl;
    in_x = by_first k h.x_from h.x_to b.x_low b.x_high;
    in_y = by_first k h.y_from h.y_to b.y_low b.y_high;
  }
  weighed {w = pos k} n (inr h) = record {
    first = 0;
    second = k;
    weight = ring (pos k ∷ []) (search sides depth 20) refl;
    in_x = by_second k h.x_from h.x_to a.x_low a.x_high;
    in_y = by_second k h.y_from h.y_to a.y_low a.y_high;
  }
  weighed {w = negsuc k} n x = absurd n.holds

  -- one more
  pub both_weighed : {v w x y s t : ℤ} → Weighed a b v x y → Weighed a b w s t → Weighed a b (v +ℤ w) (x +ℤ s) (y +ℤ t)
  both_weighed f g = record {
    first = f.first + g.first;
    second = f.second + g.second;
    weight =
        ring (pos f.first ∷ pos f.second ∷ pos g.first ∷ pos g.second ∷ []) {b = pos (f.first + f.second) +ℤ pos (g.first + g.second)}
        (search sides depth 40 fits 9999) refl
        ∙ ap₂ ◌+ℤ◌ f.weight g.weight;
    in_x = both_summed f.in_x g.in_x;
    in_y = both_summed f.in_y g.in_y;
  }

  -- their mean
  pub mean_held : {w x y : ℤ} (p : Point) → pos 0 <ℤ w → Weighed a b w x y → x ≡ w *ℤ p.x → y ≡ w *ℤ p.y → Held a b p
  mean_held {w} p h f ex ey = record {
    a = f.first;
    b = f.second;
    some = lt_pos (subst (λ z. pos 0 <ℤ z) (sym f.weight) h);
    in_x = mixed f.in_x (ex ∙ ap (λ z. z *ℤ p.x) (sym f.weight));
    in_y = mixed f.in_y (ey ∙ ap (λ z. z *ℤ p.y) (sym f.weight));
  }
    where
      mixed : {m n : ℕ} {low₀ high₀ low₁ high₁ s z : ℤ} → Summed m n low₀ high₀ low₁ high₁ s → s ≡ pos (m + n) *ℤ z
          → Mixed m n low₀ high₀ low₁ high₁ z
      mixed f e = record { low = rw e at f.low; high = rw e at f.high }

  pub point_held : {p : Point} → OfBoxes a b p → Held a b p
  point_held {p} x = mean_held p (lt_z_yes tt) (weighed (natural 1) x) refl refl

  -- ---- on a segment: the weights are the distances to its ends, across where these differ, and else upright
  module _ (u v p : Point) (xu : OfBoxes a b u) (xv : OfBoxes a b v) (line : turn u v p ≡ pos 0) where
    abbrev ρ : List ℤ
    ρ = u.x ∷ u.y ∷ v.x ∷ v.y ∷ p.x ∷ p.y ∷ []

    -- a multiple of the turn is 0
    in_line : {s t : ℤ} (k : ℤ) → s ≡ t +ℤ k *ℤ turn u v p → s ≡ t
    in_line {t} k e = e ∙ ap (λ z. t +ℤ k *ℤ z) line ∙ ring (t ∷ k ∷ []) (search sides depth 20) refl

    along_x : u.x <ℤ v.x → (u.x ≤ℤ p.x) × (p.x ≤ℤ v.x) → Held a b p
    unfolding turn
    along_x l r =
        mean_held p (lt_by ρ (gap< l) (search sides depth 40) refl) (both_weighed (weighed (gap r.1) xu) (weighed (gap r.0) xv))
        (ring ρ (search sides depth 40 fits 9999) refl) (in_line (negsuc 0) (ring ρ (search sides depth 40 fits 9999) refl))

    along_y : u.y <ℤ v.y → (u.y ≤ℤ p.y) × (p.y ≤ℤ v.y) → Held a b p
    unfolding turn
    along_y l r =
        mean_held p (lt_by ρ (gap< l) (search sides depth 40) refl) (both_weighed (weighed (gap r.1) xu) (weighed (gap r.0) xv))
        (in_line (pos 1) (ring ρ (search sides depth 40 fits 9999) refl)) (ring ρ (search sides depth 40 fits 9999) refl)

  pub segment_held : {u v p : Point} → OfBoxes a b u → OfBoxes a b v → OnSegment u v p → Held a b p
  segment_held {u} {v} {p} xu xv on = ⊎_elim
      (λ f. ⊎_elim
      (λ g. ⊎_elim
      (λ h. ⊎_elim
      (λ k. subst (Held a b) (point-≡ (still g f on.across) (still k h on.upright)) (point_held xu))
      (λ k. along_y v u p xv xu back k (falling (lt_le k) on.upright))
      (le_or_lt u.y v.y))
      (λ h. along_y u v p xu xv on.in_line h (rising (lt_le h) on.upright))
      (le_or_lt v.y u.y))
      (λ g. along_x v u p xv xu back g (falling (lt_le g) on.across))
      (le_or_lt u.x v.x))
      (λ f. along_x u v p xu xv on.in_line f (rising (lt_le f) on.across))
      (le_or_lt v.x u.x)
    where
      back : turn v u p ≡ pos 0
      back = turn_swap u v p ∙ ap neg_ℤ on.in_line

      still : {c d e : ℤ} → c ≤ℤ d → d ≤ℤ c → Between c d e → c ≡ e
      still l m z = ≤ℤ_antisymm (rising l z).0 (falling m z).1
