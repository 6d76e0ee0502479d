-- One coordinate of a node against the mixtures of its lows and highs. A point of the curve at a parameter of the node lies in a mixture, by the
-- enclosure; and what lies in a mixture is within the widths at the two break points of the curve at the parameter with the same weights.
use mathlib.Core.Path.{◌≡◌, refl, sym, ◌∙◌, ap, ap₂, subst, subst₂}
use mathlib.Core.Bool.{true}
use mathlib.Core.List.{List, [], ◌∷◌}
use Prim.Native.Nat.{ℕ, zero, suc, ◌+◌, ◌*◌, ◌-◌, ◌^◌, ◌≤◌, ◌<◌}
use native.Mathlib.Nat.{mul-le-mul_left}
use native.Mathlib.Omega.{arith}
use lib.IntN.{ℤ, pos, neg_ℤ, nat_abs, ◌+ℤ◌, ◌-ℤ◌, ◌*ℤ◌, pow, one}
use lib.Signed.{◌≤ℤ◌, ◌<ℤ◌}
use Rattle.setting.specs.Setting.{Setting, HasRows, scale, most_degree, degree_pieces}
use Rattle.setting.proofs.Scales.{over_some}
use Rattle.integers.specs.Squares.{squared}
use Rattle.integers.proofs.Squares.{square_within}
use Rattle.integers.proofs.RingLaws.{pow_last, *ℤ_assoc}
use Rattle.integers.proofs.Ring.{ring, sides}
use Rattle.integers.proofs.Order.{gap, natural, square, balance, le_by, ≤ℤ_trans, +ℤ_mono}
use Rattle.integers.proofs.Order.{pos_lt, pow_nonneg, pow_positive, times_positive, *ℤ_cancel, ◌+₀◌, ◌×₀◌}
use Rattle.curve_bernstein.specs.Value.{value}
use Rattle.curve_halves.proofs.Values.{denominator}
use Rattle.curve_nodes.specs.declared.Curve.{Curve}
use Rattle.curve_nodes.specs.Nodes.{depth}
use Rattle.curve_nodes.specs.Points.{scaled, sixteenths, offset, Within}
use Rattle.curve_nodes.proofs.Coordinates.{node_values}
use Rattle.curve_nodes.proofs.Parameters.{values_up, up_sum, p_at, r_at, same_sum, values_down}
use Rattle.bound_rows.specs.Rows.{Row}
use Rattle.bound_rows.specs.Table.{rows_of}
use Rattle.bound_enclosure.specs.Bounds.{low, high}
use Rattle.bound_enclosure.specs.AtDepth.{low_of, high_of}
use Rattle.bound_rows.specs.Joined.{Place}
use Rattle.bound_enclosure.specs.Enclosed.{Encloses}
use Rattle.bound_rows.proofs.Places.{Located, place_at}
use Rattle.bound_enclosure.proofs.Enclosure.{enclosure, enclosure_between}
use Rattle.judge_cover.specs.Covers.{Mixed}
pub use Rattle.demand_3.proofs.Weights.{at_p, at_r, up_p, up_r}

-- ---- a power of a product
pow_times : (a b : ℤ) (d : ℕ) → pow (a *ℤ b) d ≡ pow a d *ℤ pow b d
unfolding pow one
pow_times a b zero = refl
pow_times a b (suc d) = ap (λ x. x *ℤ (a *ℤ b)) (pow_times a b d) ∙ ring (a ∷ b ∷ pow a d ∷ pow b d ∷ []) (search sides depth 20) refl

pub up_some : (m n i a b : ℕ) → i < m → 0 < a + b → 0 < up_p m n i a b + up_r m n i a b
up_some m n i a b hi some =
    let more : m * 1 ≤ m * (a + b) = mul-le-mul_left m some in
    omega (arith, (place_at m i a b hi).whole, more)

-- w · z is within e of 16 · v
record Close (e w v z : ℤ) : Type 0 where
  above : (w *ℤ z -ℤ pos 16 *ℤ v) ≤ℤ e
  below : neg_ℤ e ≤ℤ (w *ℤ z -ℤ pos 16 *ℤ v)

-- ---- any enclosed coordinate, over the denominator D
module _ (m d D : ℕ) (ρs : List Row) (cs : List ℤ) (hd : 0 < d) (hD : 0 < D) (i a b p r : ℕ) where
  abbrev factor : ℤ
  factor = pow (pos (p + r)) (d - 1)

  abbrev whole : ℤ
  whole = pow (pos (p + r)) d

  last : whole ≡ factor *ℤ pos (p + r)
  last = pow_last (pos (p + r)) d hd

  abbrev here : ℤ
  here = value (pos p) (pos r) d cs

  -- low and high at the two ends of piece i
  abbrev l₀ : ℤ
  l₀ = low m ρs (pos D) d cs i

  abbrev h₀ : ℤ
  h₀ = high m ρs (pos D) d cs i

  abbrev l₁ : ℤ
  l₁ = low m ρs (pos D) d cs (suc i)

  abbrev h₁ : ℤ
  h₁ = high m ρs (pos D) d cs (suc i)

  enclosed_mixed : 0 < p + r → Place m i a b p r → Encloses m ρs (pos D) d cs i a b p r → (z : ℤ) → pos D *ℤ (pow (pos (p + r)) d *ℤ z) ≡ sixteenths d p r cs
      → Mixed a b l₀ h₀ l₁ h₁ z
  enclosed_mixed some w e z same =
      let positive : pos 0 <ℤ (pos D *ℤ factor) = times_positive (pos_lt hD) (pow_positive (pos_lt some) (d - 1)) in
      record {
        low = *ℤ_cancel positive (le_by (pos D ∷ factor ∷ whole ∷ here ∷ pos a ∷ pos b ∷ pos p ∷ pos r ∷ l₀ ∷ l₁ ∷ z ∷ [])
            (gap e.below +₀ balance (pos 1) same +₀ balance (neg_ℤ (pos D *ℤ z)) last +₀ balance (pos D *ℤ factor *ℤ z) (ap pos w.whole))
            (search sides depth 40 fits 9999) refl);
        high = *ℤ_cancel positive (le_by (pos D ∷ factor ∷ whole ∷ here ∷ pos a ∷ pos b ∷ pos p ∷ pos r ∷ h₀ ∷ h₁ ∷ z ∷ [])
            (gap e.above +₀ balance (neg_ℤ (pos 1)) same +₀ balance (pos D *ℤ z) last +₀ balance (neg_ℤ (pos D *ℤ factor *ℤ z)) (ap pos w.whole))
            (search sides depth 40 fits 9999) refl);
      }

  -- what a mixture holds is off by the mixture of the widths at most
  mixed_close : Place m i (m * a) (m * b) p r → Encloses m ρs (pos D) d cs i (m * a) (m * b) p r → (z : ℤ) → Mixed a b l₀ h₀ l₁ h₁ z
      → Close (pos D *ℤ factor *ℤ pos m *ℤ (pos a *ℤ (h₀ -ℤ l₀) +ℤ pos b *ℤ (h₁ -ℤ l₁))) (pos D *ℤ whole) here z
  mixed_close w e z mixed =
      let ρ = pos D ∷ factor ∷ whole ∷ here ∷ pos m ∷ pos a ∷ pos b ∷ pos p ∷ pos r ∷ l₀ ∷ h₀ ∷ l₁ ∷ h₁ ∷ z ∷ [] in
      let k = natural D ×₀ pow_nonneg (p + r) (d - 1) ×₀ natural m in
      record {
        above = le_by ρ
            (gap e.below +₀ k ×₀ gap mixed.high
            +₀ balance (neg_ℤ (pos D *ℤ z)) last +₀ balance (pos D *ℤ factor *ℤ z) (ap pos w.whole))
            (search sides depth 40 fits 9999) refl;
        below = le_by ρ
            (gap e.above +₀ k ×₀ gap mixed.low
            +₀ balance (pos D *ℤ z) last +₀ balance (neg_ℤ (pos D *ℤ factor *ℤ z)) (ap pos w.whole))
            (search sides depth 40 fits 9999) refl;
      }

-- ---- a node of a curve, one coordinate
-- weights at node 1 and at node n have the same sum
pub down_sum : (n p r P R : ℕ) → pos P ≡ p_at n (pos p) (pos r) → pos R ≡ r_at n (pos p) (pos r) → P + R ≡ p + r
down_sum n p r P R eP eR = ap nat_abs (ap₂ ◌+ℤ◌ eP eR ∙ same_sum n (pos p) (pos r))

module _ (σ : Setting) (rows : HasRows σ.pieces) (d : ℕ) (least : 1 ≤ d) (most : d ≤ most_degree) (takes : degree_pieces d σ.pieces ≡ true)
    (cs : List ℤ) (n : ℕ) (hn : 0 < n) where
  abbrev E : ℕ
  E = 2 ^ (d * depth n)

  abbrev D : ℕ
  D = scale σ * E

  some_D : 0 < D
  some_D = over_some σ (d * depth n)

  abbrev lows : ℕ → ℤ
  lows = low_of σ d (depth n) (node_values d cs n)

  abbrev highs : ℕ → ℤ
  highs = high_of σ d (depth n) (node_values d cs n)

  -- p / (p + r) at node 1 is P / (P + R) at node n
  pub point_mixed : (p r P R : ℕ) → 0 < p + r → pos P ≡ p_at n (pos p) (pos r) → pos R ≡ r_at n (pos p) (pos r) → (l : Located σ.pieces P R)
      → (z : ℤ) → scaled (scale σ) d p r z ≡ sixteenths d p r cs
      → Mixed l.near l.far (lows l.piece) (highs l.piece) (lows (suc l.piece)) (highs (suc l.piece)) z
  point_mixed p r P R some eP eR l z same =
      enclosed_mixed σ.pieces d D (rows_of σ.pieces d) (node_values d cs n) least some_D l.piece l.near l.far P R (rw sum some) l.place
      (enclosure σ.pieces d rows least most takes (pos D) (pos_lt some_D) (node_values d cs n) l.piece l.near l.far P R l.inside l.place)
      z
      (ap (λ (q : ℕ). pos D *ℤ (pow (pos q) d *ℤ z)) sum
      ∙ ring (pos (scale σ) ∷ pos E ∷ pow (pos (p + r)) d ∷ z ∷ []) {b = pos E *ℤ (pos (scale σ) *ℤ (pow (pos (p + r)) d *ℤ z))} (search sides depth 20) refl
      ∙ ap (λ x. pos E *ℤ x) same ∙ ring (pos E ∷ value (pos p) (pos r) d cs ∷ []) (search sides depth 20) refl
      ∙ ap (λ x. pos 16 *ℤ x) (sym down))
    where
      sum : P + R ≡ p + r
      sum = down_sum n p r P R eP eR

      down : value (pos P) (pos R) d (node_values d cs n) ≡ pos E *ℤ value (pos p) (pos r) d cs
      down = ap₂ (λ x y. value x y d (node_values d cs n)) eP eR ∙ values_down d most cs n hn (pos p) (pos r)
          ∙ ap (λ x. x *ℤ value (pos p) (pos r) d cs) (denominator d (depth n))

  -- P / (P + R) at node n is this parameter at node 1: a point of a mixture is off by the mixture of the widths at most
  module _ (i a b : ℕ) (hi : i < σ.pieces) where
    abbrev m : ℕ
    m = σ.pieces

    abbrev P : ℕ
    P = at_p i a b

    abbrev R : ℕ
    R = at_r m i a b

    -- the scale times (p + r)^d at node 1 is this times a + b
    abbrev unit : ℤ
    unit = pos D *ℤ pow (pos (P + R)) (d - 1) *ℤ pos m

    power : pos (scale σ) *ℤ pow (pos (up_p m n i a b + up_r m n i a b)) d ≡ pos D *ℤ pow (pos (P + R)) d
    power = ap (λ x. pos (scale σ) *ℤ x) (ap (λ x. pow x d) (up_sum n hn (pos P) (pos R)) ∙ pow_times (pos (2 ^ depth n)) (pos (P + R)) d
        ∙ ap (λ x. x *ℤ pow (pos (P + R)) d) (denominator d (depth n)))
        ∙ ring (pos (scale σ) ∷ pos E ∷ pow (pos (P + R)) d ∷ []) {a = pos (scale σ) *ℤ (pos E *ℤ pow (pos (P + R)) d)} (search sides depth 20) refl

    unit_power : pos (scale σ) *ℤ pow (pos (up_p m n i a b + up_r m n i a b)) d ≡ unit *ℤ (pos a +ℤ pos b)
    unit_power = power ∙ ap (λ x. pos D *ℤ x) (pow_last (pos (P + R)) d least)
        ∙ ap (λ x. pos D *ℤ (pow (pos (P + R)) (d - 1) *ℤ x)) (ap pos (sym (place_at m i a b hi).whole))
        ∙ ring (pos D ∷ pow (pos (P + R)) (d - 1) ∷ pos m ∷ pos a ∷ pos b ∷ []) (search sides depth 20) refl

    mixed_off : (z : ℤ) → Mixed a b (lows i) (highs i) (lows (suc i)) (highs (suc i)) z → squared (offset (scale σ) d (up_p m n i a b) (up_r m n i a b) cs z)
        ≤ℤ squared (unit *ℤ (pos a *ℤ (highs i -ℤ lows i) +ℤ pos b *ℤ (highs (suc i) -ℤ lows (suc i))))
    mixed_off z mixed =
        let e = unit *ℤ (pos a *ℤ (highs i -ℤ lows i) +ℤ pos b *ℤ (highs (suc i) -ℤ lows (suc i))) in
        let W = pow (pos (up_p m n i a b + up_r m n i a b)) d in
        let v = value (pos (up_p m n i a b)) (pos (up_r m n i a b)) d cs in
        let s : Close e (pos (scale σ) *ℤ W) v z = subst₂ (λ w v. Close e w v z) (sym power) (sym (values_up d most cs n hn (pos P) (pos R)))
        (mixed_close m d D (rows_of m d) (node_values d cs n) least some_D i a b P R (place_at m i a b hi)
        (enclosure_between m d rows least most takes (pos D) (pos_lt some_D) (node_values d cs n) i a b hi) z mixed) in
        subst (λ x. squared (x -ℤ pos 16 *ℤ v) ≤ℤ squared e) (*ℤ_assoc (pos (scale σ)) W z) (square_within s.below s.above)

-- ---- both coordinates: boxes with a diagonal within T have mixtures with one within T, since 2 × w₀ × w₁ ≤ w₀² + w₁²
mixed_squares : (k : ℤ) (a b : ℕ) (T w₀ h₀ w₁ h₁ : ℤ) → (squared w₀ +ℤ squared h₀) ≤ℤ squared T → (squared w₁ +ℤ squared h₁) ≤ℤ squared T
    → (squared (k *ℤ (pos a *ℤ w₀ +ℤ pos b *ℤ w₁)) +ℤ squared (k *ℤ (pos a *ℤ h₀ +ℤ pos b *ℤ h₁))) ≤ℤ squared (k *ℤ (pos a +ℤ pos b) *ℤ T)
mixed_squares k a b T w₀ h₀ w₁ h₁ first second = le_by (k ∷ pos a ∷ pos b ∷ T ∷ w₀ ∷ h₀ ∷ w₁ ∷ h₁ ∷ [])
    (square k ×₀ (natural a ×₀ natural a ×₀ gap first +₀ natural b ×₀ natural b ×₀ gap second
    +₀ natural a ×₀ natural b ×₀ (gap first +₀ gap second +₀ square (w₀ -ℤ w₁) +₀ square (h₀ -ℤ h₁))))
    (search sides depth 40 fits 9999) refl

-- the width of a coordinate of node n at break point i
abbrev pub width_at : Setting → ℕ → List ℤ → ℕ → ℕ → ℤ
width_at σ d cs n i = high_of σ d (depth n) (node_values d cs n) i -ℤ low_of σ d (depth n) (node_values d cs n) i

module _ (σ : Setting) (rows : HasRows σ.pieces) (c : Curve) (least : 1 ≤ c.degree) (most : c.degree ≤ most_degree)
    (takes : degree_pieces c.degree σ.pieces ≡ true) (n : ℕ) (hn : 0 < n) (i a b : ℕ) (hi : i < σ.pieces) (T x y : ℤ) where
  abbrev w : ℕ → ℤ
  w = width_at σ c.degree c.x n

  abbrev h : ℕ → ℤ
  h = width_at σ c.degree c.y n

  abbrev low_x : ℕ → ℤ
  low_x = low_of σ c.degree (depth n) (node_values c.degree c.x n)

  abbrev high_x : ℕ → ℤ
  high_x = high_of σ c.degree (depth n) (node_values c.degree c.x n)

  abbrev low_y : ℕ → ℤ
  low_y = low_of σ c.degree (depth n) (node_values c.degree c.y n)

  abbrev high_y : ℕ → ℤ
  high_y = high_of σ c.degree (depth n) (node_values c.degree c.y n)

  pub mixed_within : (squared (w i) +ℤ squared (h i)) ≤ℤ squared T → (squared (w (suc i)) +ℤ squared (h (suc i))) ≤ℤ squared T
      → Mixed a b (low_x i) (high_x i) (low_x (suc i)) (high_x (suc i)) x → Mixed a b (low_y i) (high_y i) (low_y (suc i)) (high_y (suc i)) y
      → Within (scale σ) T c (up_p σ.pieces n i a b) (up_r σ.pieces n i a b) x y
  mixed_within first second in_x in_y = record {
    distance = ≤ℤ_trans
        (+ℤ_mono (mixed_off σ rows c.degree least most takes c.x n hn i a b hi x in_x)
        (mixed_off σ rows c.degree least most takes c.y n hn i a b hi y in_y))
        (subst (λ z. across ≤ℤ squared z) (*ℤ_assoc (pos (scale σ)) W T)
        (subst (λ z. across ≤ℤ squared (z *ℤ T)) (sym (unit_power σ rows c.degree least most takes c.x n hn i a b hi))
        (mixed_squares k a b T (w i) (h i) (w (suc i)) (h (suc i)) first second)));
  }
    where
      k : ℤ
      k = unit σ rows c.degree least most takes c.x n hn i a b hi

      W : ℤ
      W = pow (pos (up_p σ.pieces n i a b + up_r σ.pieces n i a b)) c.degree

      across : ℤ
      across = squared (k *ℤ (pos a *ℤ w i +ℤ pos b *ℤ w (suc i))) +ℤ squared (k *ℤ (pos a *ℤ h i +ℤ pos b *ℤ h (suc i)))
