-- A point inside a polygon of three or more vertices lies in a triangle of the fan from its first vertex, and is the mean of this triangle's corners,
-- each weighed by the turn of the point round the side across. The weights come to a positive number: to the turn of the triangle where it is the
-- first, and else the weight of its last corner is positive.
use mathlib.Core.Path.{◌≡◌, refl, subst}
use mathlib.Core.Logic.{⊎_elim}
use mathlib.Core.List.{List, [], ◌∷◌}
use Prim.Native.Nat.{ℕ, zero, suc, ◌+◌, ◌-◌, ◌≤◌, ◌<◌}
use native.Mathlib.Omega.{arith}
use lib.ListN.{length}
use lib.IntN.{ℤ, pos, ◌+ℤ◌, ◌*ℤ◌}
use lib.Signed.{◌≤ℤ◌, ◌<ℤ◌}
use Rattle.integers.proofs.Ring.{ring, sides}
use Rattle.integers.proofs.Order.{gap<, nonneg, lt_by, lt_le, le_or_lt, balance, ◌+₀◌}
use Rattle.draw_polygon.specs.declared.Point.{Point}
use Rattle.draw_polygon.specs.Hull.{turn, round, Hull}
use Rattle.draw_polygon.proofs.Edges.{turn_swap}
use Rattle.draw_polygon.proofs.Hulls.{round_again, strictly_left}

-- ---- the turns of p round the sides of a triangle
abbrev pub turns : Point → Point → Point → Point → ℤ
turns u v w p = turn v w p +ℤ turn w u p +ℤ turn u v p

module _ (u v w p : Point) where
  turns_are : turns u v w p ≡ turn u v w
  unfolding turn
  turns_are = ring (u.x ∷ u.y ∷ v.x ∷ v.y ∷ w.x ∷ w.y ∷ p.x ∷ p.y ∷ []) (search sides depth 40 fits 9999) refl

  pub mean_x : turn v w p *ℤ u.x +ℤ turn w u p *ℤ v.x +ℤ turn u v p *ℤ w.x ≡ turns u v w p *ℤ p.x
  unfolding turn
  mean_x = ring (u.x ∷ u.y ∷ v.x ∷ v.y ∷ w.x ∷ w.y ∷ p.x ∷ p.y ∷ []) (search sides depth 40 fits 9999) refl

  pub mean_y : turn v w p *ℤ u.y +ℤ turn w u p *ℤ v.y +ℤ turn u v p *ℤ w.y ≡ turns u v w p *ℤ p.y
  unfolding turn
  mean_y = ring (u.x ∷ u.y ∷ v.x ∷ v.y ∷ w.x ∷ w.y ∷ p.x ∷ p.y ∷ []) (search sides depth 40 fits 9999) refl

-- ---- the triangle of vertices 0, k and k + 1 that holds p
pub record Triangle (vs : List Point) (p : Point) : Type 0 where
  pub k : ℕ
  pub within : suc k < length vs
  pub across : pos 0 ≤ℤ turn (round vs k) (round vs (suc k)) p
  pub back : pos 0 ≤ℤ turn (round vs (suc k)) (round vs 0) p
  pub out : pos 0 ≤ℤ turn (round vs 0) (round vs k) p
  pub positive : pos 0 <ℤ turns (round vs 0) (round vs k) (round vs (suc k)) p

module _ {X : Point → Type 0} {vs : List Point} (h : Hull X vs) (three : 3 ≤ length vs) (p : Point)
    (left : (k : ℕ) → k < length vs → pos 0 ≤ℤ turn (round vs k) (round vs (suc k)) p) where
  -- the closing edge
  closing : (k : ℕ) → suc k ≡ length vs → pos 0 ≤ℤ turn (round vs k) (round vs 0) p
  closing k e = subst (λ q. pos 0 ≤ℤ turn (round vs k) q p) (round_again vs (suc k) 0 (omega arith) (omega arith)) (left k (omega arith))

  module _ (k : ℕ) (within : suc k < length vs) where
    abbrev Back : Type 0
    Back = pos 0 ≤ℤ turn (round vs (suc k)) (round vs 0) p

    abbrev Positive : Type 0
    Positive = pos 0 <ℤ turns (round vs 0) (round vs k) (round vs (suc k)) p

    found : pos 0 ≤ℤ turn (round vs 0) (round vs k) p → Back → Positive → Triangle vs p
    found out back positive = record { k = k; within = within; across = left k (omega arith); back = back; out = out; positive = positive }

    by_out : pos 0 <ℤ turn (round vs 0) (round vs k) p → Back → Positive
    by_out out back =
        lt_by (turn (round vs k) (round vs (suc k)) p ∷ turn (round vs (suc k)) (round vs 0) p ∷ turn (round vs 0) (round vs k) p ∷ [])
        (nonneg (left k (omega arith)) +₀ nonneg back +₀ gap< out) (search sides depth 40 fits 9999) refl

    beyond : turn (round vs (suc k)) (round vs 0) p <ℤ pos 0 → pos 0 <ℤ turn (round vs 0) (round vs (suc k)) p
    beyond l = lt_by (turn (round vs (suc k)) (round vs 0) p ∷ turn (round vs 0) (round vs (suc k)) p ∷ [])
        (gap< l +₀ balance (pos 1) (turn_swap (round vs (suc k)) (round vs 0) p)) (search sides depth 40 fits 9999) refl

  -- p lies to the left of the way from vertex 0 to vertex k; after vertex k + 1 there are m more
  triangle_from : (m k : ℕ) (e : suc (suc (k + m)) ≡ length vs) → pos 0 ≤ℤ turn (round vs 0) (round vs k) p
      → (Back k (omega arith) → Positive k (omega arith)) → Triangle vs p
  triangle_from zero k e out positive = let back = closing (suc k) (omega arith) in found k (omega arith) out back (positive back)
  triangle_from (suc m) k e out positive = ⊎_elim
      (λ back. found k (omega arith) out back (positive back))
      (λ l. let further = beyond k (omega arith) l in
      triangle_from m (suc k) (omega arith) (lt_le further) (by_out (suc k) (omega arith) further))
      (le_or_lt (pos 0) (turn (round vs (suc k)) (round vs 0) p))

  pub triangle : Triangle vs p
  triangle = triangle_from (length vs - 3) 1 (omega arith) (left 0 (omega arith))
      (λ back. rw (turns_are (round vs 0) (round vs 1) (round vs 2) p) (strictly_left h three 0 (omega arith)))
