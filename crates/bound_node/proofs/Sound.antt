-- The boxes of a node, whether it meets a tolerance or not: from the enclosure at the break points and from the width, a low is not above its
-- high, and both are of the curve's size.
use mathlib.Core.Path.{◌≡◌, refl, ◌∙◌, ap}
use mathlib.Core.Bool.{true}
use mathlib.Core.List.{List, [], ◌∷◌}
use Prim.Native.Nat.{ℕ, zero, suc, ◌+◌, ◌*◌, ◌-◌, ◌^◌, ◌≤◌, ◌<◌}
use native.Mathlib.Nat.{le_refl, le_trans, mul-le-mul}
use native.Mathlib.Omega.{arith}
use lib.Dec.{lit≤}
use lib.IntN.{ℤ, pos, neg_ℤ, nat_abs, ◌-ℤ◌, ◌*ℤ◌, pow}
use lib.Signed.{◌≤ℤ◌, ◌<ℤ◌, lt_z_yes}
use Rattle.setting.specs.Setting.{Setting, HasRows, scale, most_degree, degree_pieces}
use Rattle.setting.proofs.Scales.{scale_some, scaled_more, over_some}
use Rattle.integers.proofs.Ring.{ring, sides}
use Rattle.integers.proofs.Order.{pow_positive, times_positive, balance, natural, gap, le_by, pos_le, pos_lt, *ℤ_cancel, ≤ℤ_trans, ◌+₀◌, ◌×₀◌}
use Rattle.integers.proofs.Size.{abs_within}
use Rattle.curve_bernstein.specs.Value.{value}
use Rattle.curve_halves.specs.Sizes.{Each}
use Rattle.curve_halves.proofs.Sizes.{each_wider}
use Rattle.curve_nodes.specs.Bounds.{Sized}
use Rattle.curve_nodes.specs.declared.Curve.{Curve}
use Rattle.bound_node.specs.declared.node_boxes.WideBox.{WideBox}
use Rattle.bound_rows.specs.Rows.{Row}
use Rattle.bound_rows.specs.Rule.{gap_of}
use Rattle.bound_enclosure.specs.Bounds.{high, low}
use Rattle.bound_enclosure.specs.AtDepth.{high_of, low_of}
use Rattle.bound_node.specs.Boxes.{box_at}
use Rattle.bound_rows.specs.Joined.{Place}
use Rattle.bound_rows.proofs.Rule.{gap_most}
use Rattle.integers.proofs.RingLaws.{pow_last}
use Rattle.curve_nodes.proofs.Sizes.{difference_under}
use Rattle.curve_nodes.proofs.Values.{value_high, value_low}
use Rattle.bound_enclosure.proofs.Enclosure.{Enclosable, enclosable, encloses}
use Rattle.bound_enclosure.proofs.Width.{width_gap}

-- a low that is not above its high, and both at most B in size
pub record Sound (B : ℕ) (l h : ℤ) : Type 0 where
  pub order : l ≤ℤ h
  pub low_size : nat_abs l ≤ B
  pub high_size : nat_abs h ≤ B

-- ---- at a break point: it is the near end of piece 0, or the far end of the piece before it
-- F times l and h enclose v
record Between (F v l h : ℤ) : Type 0 where
  below : (F *ℤ l) ≤ℤ v
  above : v ≤ℤ (F *ℤ h)

module _ {m d : ℕ} {ρs : List Row} (known : Enclosable m d ρs) (some : 0 < m) (D : ℕ) (hD : 0 < D) (cs : List ℤ) where
  abbrev lows : ℕ → ℤ
  lows = low m ρs (pos D) d cs

  abbrev highs : ℕ → ℤ
  highs = high m ρs (pos D) d cs

  -- (p + r)^(d − 1) and the value at break point i, which is i / m
  abbrev power : ℕ → ℤ
  power i = pow (pos (i + (m - i))) (d - 1)

  abbrev here : ℕ → ℤ
  here i = value (pos i) (pos (m - i)) d cs

  at_break_law : (i : ℕ) → i ≤ m → Between (pos D *ℤ power i *ℤ pos m) (pos 16 *ℤ here i) (lows i) (highs i)
  at_break_law zero hi =
      let start : Place m 0 m 0 0 (m - 0) = record { whole = omega arith; at = omega arith } in
      let e = encloses known (pos_lt hD) some start cs in
      record {
        below = le_by (pos D ∷ power 0 ∷ pos m ∷ here 0 ∷ lows 0 ∷ lows 1 ∷ []) (gap e.below) (search sides depth 20) refl;
        above = le_by (pos D ∷ power 0 ∷ pos m ∷ here 0 ∷ highs 0 ∷ highs 1 ∷ []) (gap e.above) (search sides depth 20) refl;
      }
  at_break_law (suc j) hi =
      let end : Place m j 0 m (suc j) (m - suc j) = record { whole = omega arith; at = omega arith } in
      let e = encloses known (pos_lt hD) hi end cs in
      record {
        below = le_by (pos D ∷ power (suc j) ∷ pos m ∷ here (suc j) ∷ lows j ∷ lows (suc j) ∷ []) (gap e.below) (search sides depth 20) refl;
        above = le_by (pos D ∷ power (suc j) ∷ pos m ∷ here (suc j) ∷ highs j ∷ highs (suc j) ∷ []) (gap e.above) (search sides depth 20) refl;
      }

  module _ (i : ℕ) (hi : i ≤ m) where
    factor : pos 0 <ℤ (pos D *ℤ power i *ℤ pos m)
    factor = times_positive (times_positive (pos_lt hD) (pow_positive (pos_lt (omega arith)) (d - 1))) (pos_lt some)

    order : lows i ≤ℤ highs i
    order = *ℤ_cancel factor (≤ℤ_trans (at_break_law i hi).below (at_break_law i hi).above)

    -- control values within B, and a width of at most W
    module _ (B W : ℕ) (each : Each (B * D) cs) (width : (highs i -ℤ lows i) ≤ℤ pos W) where
      full : pow (pos (i + (m - i))) d *ℤ pos (B * D) ≡ pos D *ℤ power i *ℤ pos m *ℤ pos B
      full =
          ap (λ x. x *ℤ pos (B * D)) (pow_last (pos (i + (m - i))) d known.positive)
          ∙ ap (λ (q : ℕ). power i *ℤ pos q *ℤ pos (B * D)) {x = i + (m - i)} {y = m} (omega arith)
          ∙ ring (pos D ∷ power i ∷ pos m ∷ pos B ∷ []) (search sides depth 20) refl

      low_under : lows i ≤ℤ pos (16 * B)
      low_under = *ℤ_cancel factor (le_by (pos D ∷ power i ∷ pos m ∷ pos B ∷ here i ∷ lows i ∷ pow (pos (i + (m - i))) d ∷ [])
          (gap (at_break_law i hi).below +₀ natural 16 ×₀ gap (value_high i (m - i) (B * D) d cs each) +₀ balance (neg_ℤ (pos 16)) full)
          (search sides depth 20) refl)

      high_over : neg_ℤ (pos (16 * B)) ≤ℤ highs i
      high_over = *ℤ_cancel factor (le_by (pos D ∷ power i ∷ pos m ∷ pos B ∷ here i ∷ highs i ∷ pow (pos (i + (m - i))) d ∷ [])
          (gap (at_break_law i hi).above +₀ natural 16 ×₀ gap (value_low i (m - i) (B * D) d cs each) +₀ balance (neg_ℤ (pos 16)) full)
          (search sides depth 20) refl)

      sound : Sound (16 * B + W) (lows i) (highs i)
      sound =
          let ρ = pos B ∷ pos W ∷ lows i ∷ highs i ∷ [] in
          record {
            order = order;
            low_size = abs_within (16 * B + W) (lows i)
                (le_by ρ (gap high_over +₀ gap width) (search sides depth 20) refl)
                (le_by ρ (gap low_under +₀ natural W) (search sides depth 20) refl);
            high_size = abs_within (16 * B + W) (highs i)
                (le_by ρ (gap high_over +₀ natural W) (search sides depth 20) refl)
                (le_by ρ (gap low_under +₀ gap width) (search sides depth 20) refl);
          }

-- ---- the rows of a setting
pub low_high : (σ : Setting) → HasRows σ.pieces → (d depth : ℕ) (cs : List ℤ) → 1 ≤ d → d ≤ most_degree
    → degree_pieces d σ.pieces ≡ true → (i : ℕ) → i ≤ σ.pieces → low_of σ d depth cs i ≤ℤ high_of σ d depth cs i
low_high σ rows d depth cs least most takes =
    order (enclosable σ.pieces d rows least most takes) rows.least (scale σ * 2 ^ (d * depth)) (over_some σ (d * depth)) cs

-- ---- control values are within 2^20 of a unit, so second differences are within 2^22, and a width within 2^26 sixteenths
module _ (σ : Setting) (rows : HasRows σ.pieces) (d depth : ℕ) (cs : List ℤ) (least : 1 ≤ d) (most : d ≤ most_degree)
    (takes : degree_pieces d σ.pieces ≡ true) (each : Each (2 ^ 20 * 2 ^ (d * depth)) cs) where
  pub width_under : (i : ℕ) → i ≤ σ.pieces → (high_of σ d depth cs i -ℤ low_of σ d depth cs i) ≤ℤ pos (2 ^ 26)
  width_under i hi = *ℤ_cancel {k = pos 10000 *ℤ pos (scale σ)} (times_positive {x = pos 10000} (lt_z_yes tt) (pos_lt (scale_some σ)))
      (le_by (pos (scale σ) ∷ pos (gap_of σ.pieces d) ∷ high_of σ d depth cs i ∷ low_of σ d depth cs i ∷ [])
      (gap (width_gap σ rows d depth 1 (2 ^ 22) cs most takes (λ k h. omega (arith, difference_under each k)) i hi)
      +₀ natural 67108864 ×₀ gap (pos_le (gap_most σ.pieces d rows most takes)) +₀ natural 671088620000 ×₀ gap (pos_le (scale_some σ))
      +₀ natural 167772140000)
      (search sides depth 20) refl)

  pub bounds_sound : (i : ℕ) → i ≤ σ.pieces → Sound (2 ^ 28) (low_of σ d depth cs i) (high_of σ d depth cs i)
  bounds_sound i hi = wider (sound (enclosable σ.pieces d rows least most takes) rows.least
      (scale σ * 2 ^ (d * depth)) (over_some σ (d * depth)) cs i hi (2 ^ 20) (2 ^ 26)
      (each_wider (mul-le-mul (le_refl (2 ^ 20)) (scaled_more σ (2 ^ (d * depth)))) each) (width_under i hi))
    where
      wider : {l h : ℤ} → Sound (2 ^ 24 + 2 ^ 26) l h → Sound (2 ^ 28) l h
      wider s = record { order = s.order; low_size = le_trans s.low_size (lit≤ tt); high_size = le_trans s.high_size (lit≤ tt) }

-- a box of a node
pub record SoundBox (B : ℕ) (b : WideBox) : Type 0 where
  pub x : Sound B b.x_low b.x_high
  pub y : Sound B b.y_low b.y_high

pub node_box_law : (σ : Setting) → HasRows σ.pieces → (depth : ℕ) (c : Curve) → Sized depth c → degree_pieces c.degree σ.pieces ≡ true
    → (i : ℕ) → i ≤ σ.pieces → SoundBox (2 ^ 28) (box_at σ depth c i)
unfolding box_at
node_box_law σ rows depth c s takes i hi = record {
  x = bounds_sound σ rows c.degree depth c.x s.least s.most takes s.x i hi;
  y = bounds_sound σ rows c.degree depth c.y s.least s.most takes s.y i hi;
}
