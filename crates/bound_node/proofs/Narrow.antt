-- What the test says of a node that meets the tolerance: at every break point width squared plus height squared is at most the tolerance squared.
use mathlib.Core.Path.{◌≡◌, refl, sym, subst}
use mathlib.Core.Bool.{Bool, true, false}
use mathlib.Core.Logic.{⊎_elim}
use mathlib.Core.List.{[], ◌∷◌}
use Prim.Native.Nat.{ℕ, zero, suc, ◌+◌, ◌*◌, ◌-◌, ◌^◌, ◌≤◌, ◌<◌, suc-le-suc}
use native.Mathlib.Nat.{le_refl, le_of_suc-le-suc, not-suc-le-zero, eq-or-lt_of_le, one-le-pow, zero-lt-suc}
use native.Mathlib.Omega.{arith}
use lib.Dec.{T}
use lib.IntN.{ℤ, pos, nat_abs, ◌+ℤ◌, ◌-ℤ◌, ◌*ℤ◌}
use lib.Signed.{lt_z, ◌≤ℤ◌, ◌<ℤ◌, le_z_yes}
use Rattle.setting.specs.Setting.{Setting, HasRows, scale, break_points, most_degree, degree_pieces}
use Rattle.setting.proofs.Scales.{scaled_some}
use Rattle.integers.specs.Squares.{squared}
use Rattle.integers.proofs.Ring.{sides}
use Rattle.integers.proofs.Order.{NonNeg, natural, nonneg, gap, le_by, lt_le, pos_lt, times_positive, *ℤ_cancel, ≤ℤ_trans, ◌+₀◌, ◌×₀◌}
use Rattle.integers.proofs.Squares.{square_mono}
use Rattle.integers.proofs.Table.{and_left, and_right, both_pass}
use Rattle.integers.proofs.Ranges.{T_true, lt_yes, no_le}
use Rattle.curve_nodes.specs.declared.Curve.{Curve}
use Rattle.curve_nodes.specs.Differences.{difference}
use Rattle.bound_node.specs.declared.node_boxes.WideBox.{WideBox}
use Rattle.bound_rows.specs.Rule.{gap_of}
use Rattle.bound_enclosure.specs.AtDepth.{low_of, high_of}
use Rattle.bound_node.specs.Boxes.{box_at, narrow, all_narrow, meets}
use Rattle.bound_enclosure.proofs.Width.{width_gap}
use Rattle.bound_node.proofs.Sound.{low_high}

-- width squared plus height squared at break point i
abbrev pub diagonal : Setting → ℕ → Curve → ℕ → ℤ
diagonal σ depth c i =
    squared (high_of σ c.degree depth c.x i -ℤ low_of σ c.degree depth c.x i)
    +ℤ squared (high_of σ c.degree depth c.y i -ℤ low_of σ c.degree depth c.y i)

pub record Narrow (σ : Setting) (tolerance : ℤ) (depth : ℕ) (c : Curve) : Type 0 where
  pub each : (i : ℕ) → i ≤ σ.pieces → diagonal σ depth c i ≤ℤ squared tolerance

pub refuted : {b : Bool} → (b ≡ true → ⊥) → b ≡ false
refuted {b = true} f = absurd (f refl)
refuted {b = false} f = refl

-- ---- the test of one box, as code asks it
module _ (tolerance : ℤ) (b : WideBox) where
  abbrev across : ℤ
  across = squared (b.x_high -ℤ b.x_low) +ℤ squared (b.y_high -ℤ b.y_low)

  pub longer_wide : lt_z (squared tolerance) across ≡ true → narrow tolerance b ≡ false
  longer_wide e = no_le {a = across} {b = squared tolerance} (lt_yes e)

-- ---- the test of several boxes
module _ (tolerance : ℤ) (box : ℕ → WideBox) where
  each_narrow : (n : ℕ) → T (all_narrow n tolerance box) → (i : ℕ) → i < n → T (narrow tolerance (box i))
  each_narrow zero t i h = absurd (not-suc-le-zero h)
  each_narrow (suc n) t i h = ⊎_elim
      (λ e. rw e (and_right (all_narrow n tolerance box) (narrow tolerance (box n)) t))
      (λ l. each_narrow n (and_left (all_narrow n tolerance box) (narrow tolerance (box n)) t) i l)
      (eq-or-lt_of_le (le_of_suc-le-suc h))

  all_narrow_law : (n : ℕ) → ((i : ℕ) → i < n → T (narrow tolerance (box i))) → T (all_narrow n tolerance box)
  all_narrow_law zero f = tt
  all_narrow_law (suc n) f = both_pass (all_narrow n tolerance box) (narrow tolerance (box n))
      (all_narrow_law n (λ i l. f i (omega arith))) (f n (le_refl (suc n)))

module _ (σ : Setting) (tolerance : ℤ) (depth : ℕ) (c : Curve) where
  pub meets_narrow : meets σ tolerance depth c ≡ true → Narrow σ tolerance depth c
  unfolding meets box_at
  meets_narrow e = record { each = λ i h. le_z_yes (each_narrow tolerance (box_at σ depth c) (break_points σ) (subst T (sym e) tt) i (suc-le-suc h)) }

  pub narrow_meets : Narrow σ tolerance depth c → meets σ tolerance depth c ≡ true
  unfolding meets box_at
  narrow_meets n = T_true (all_narrow (break_points σ) tolerance (box_at σ depth c))
      (all_narrow_law tolerance (box_at σ depth c) (break_points σ) (λ i l. (n.each i (le_of_suc-le-suc l)).le))

  -- one box that is not narrow decides
  pub wide_fails : (i : ℕ) → i ≤ σ.pieces → narrow tolerance (box_at σ depth c i) ≡ false → meets σ tolerance depth c ≡ false
  unfolding meets
  wide_fails i h e = refuted (λ m. subst T e (each_narrow tolerance (box_at σ depth c) (break_points σ) (subst T (sym m) tt) i (suc-le-suc h)))

-- a node that meets T meets every larger one
pub meets_looser : (σ : Setting) {T U : ℤ} → NonNeg T → T ≤ℤ U → (depth : ℕ) (c : Curve) → meets σ T depth c ≡ true → meets σ U depth c ≡ true
meets_looser σ {T} {U} some h depth c e =
    narrow_meets σ U depth c (record { each = λ i l. ≤ℤ_trans ((meets_narrow σ T depth c e).each i l) (square_mono some h) })

-- ---- the width law of a curve: with Z = 10000 z, a width w and a height h, Z w and Z h are at most X, and 2 X² ≤ (Z T)²
flat_narrow : {Z X w h : ℤ} (t : ℤ) → pos 0 <ℤ Z → NonNeg X → NonNeg w → NonNeg h → (Z *ℤ w) ≤ℤ X → (Z *ℤ h) ≤ℤ X
    → (pos 2 *ℤ squared X) ≤ℤ squared (Z *ℤ t) → (squared w +ℤ squared h) ≤ℤ squared t
flat_narrow {Z} {X} {w} {h} t hZ hX hw hh a b premise = *ℤ_cancel {k = squared Z} (times_positive hZ hZ) (le_by (Z ∷ X ∷ t ∷ w ∷ h ∷ [])
    (gap premise +₀ gap a ×₀ (hX +₀ Z₀ ×₀ hw) +₀ gap b ×₀ (hX +₀ Z₀ ×₀ hh)) (search sides depth 40 fits 9999) refl)
  where
    Z₀ : NonNeg Z
    Z₀ = nonneg (lt_le hZ)

-- a node meets T where M, the largest second difference of the curve, is small enough for its depth; G is that of its degree
pub width_meets : (σ : Setting) → HasRows σ.pieces → (tolerance : ℤ) (depth M : ℕ) (c : Curve) → 1 ≤ c.degree → c.degree ≤ most_degree
    → degree_pieces c.degree σ.pieces ≡ true
    → ((k : ℕ) → k < c.degree - 1 → 4 ^ depth * nat_abs (difference c.x k) ≤ 2 ^ (c.degree * depth) * M)
    → ((k : ℕ) → k < c.degree - 1 → 4 ^ depth * nat_abs (difference c.y k) ≤ 2 ^ (c.degree * depth) * M)
    → (pos 2 *ℤ squared (pos 16 *ℤ pos (gap_of σ.pieces c.degree) *ℤ pos M +ℤ pos 20000 *ℤ pos (scale σ * 4 ^ depth)))
    ≤ℤ squared (pos 10000 *ℤ tolerance *ℤ pos (scale σ * 4 ^ depth))
    → meets σ tolerance depth c ≡ true
width_meets σ rows tolerance depth M c least most takes bx by premise = narrow_meets σ tolerance depth c (record {
  each = λ i hi. flat_narrow tolerance (pos_lt positive) (natural (16 * G * M + 20000 * z))
      (gap (low_high σ rows c.degree depth c.x least most takes i hi))
      (gap (low_high σ rows c.degree depth c.y least most takes i hi))
      (width_gap σ rows c.degree depth (4 ^ depth) M c.x most takes bx i hi)
      (width_gap σ rows c.degree depth (4 ^ depth) M c.y most takes by i hi) turned;
})
  where
    G : ℕ
    G = gap_of σ.pieces c.degree

    z : ℕ
    z = scale σ * 4 ^ depth

    positive : 0 < 10000 * z
    positive = omega (arith, scaled_some σ (one-le-pow depth 4 (zero-lt-suc 3)))

    turned : (pos 2 *ℤ squared (pos 16 *ℤ pos G *ℤ pos M +ℤ pos 20000 *ℤ pos z)) ≤ℤ squared (pos 10000 *ℤ pos z *ℤ tolerance)
    turned = le_by (pos G ∷ pos M ∷ tolerance ∷ pos z ∷ []) (gap premise) (search sides depth 40 fits 9999) refl
