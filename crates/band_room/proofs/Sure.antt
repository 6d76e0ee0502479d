-- Where no second difference of a curve is above M, a box at depth j is at most 16 × G × M over 10000 × 4^j wide and high, rounded down, and two more. So
-- where such a box is not too long, every node at depth j is a leaf, and the curve has at most 2^j leaves.
use mathlib.Core.Path.{◌≡◌, refl}
use mathlib.Core.Bool.{Bool, true, false, cond}
use mathlib.Core.Logic.{⊎_elim}
use mathlib.Core.List.{List, [], ◌∷◌}
use Prim.Native.Nat.{ℕ, ◌+◌, ◌-◌, ◌*◌, ◌/◌, ◌^◌, ◌≤◌, ◌<◌}
use native.Mathlib.Nat.{le_trans, mul-le-mul, le_refl, mul_assoc, mul_comm, mul-add, div-div-eq-div-mul, div-add-mod, mod-lt, one-le-pow, zero-lt-suc}
use native.Mathlib.Omega.{arith}
use lib.IntN.{ℤ, pos, nat_abs, ◌+ℤ◌, ◌-ℤ◌, ◌*ℤ◌}
use lib.Signed.{◌≤ℤ◌}
use Rattle.setting.specs.Setting.{Setting, HasRows, scale, degree_pieces, deepest}
use Rattle.setting.proofs.Depths.{deepest_low}
use Rattle.integers.specs.Squares.{squared}
use Rattle.integers.proofs.Ring.{sides}
use Rattle.integers.proofs.Order.{natural, gap, gap<, le_by, clash_by, le_or_lt, pos_lt, ≤ℤ_trans, +ℤ_mono, ◌+₀◌, ◌×₀◌}
use Rattle.integers.proofs.Squares.{square_mono}
use Rattle.curve_nodes.specs.declared.Curve.{Curve}
use Rattle.curve_nodes.specs.Bounds.{Sized}
use Rattle.curve_nodes.specs.Differences.{difference, largest}
use Rattle.curve_nodes.specs.Nodes.{depth, node_curve}
use Rattle.curve_nodes.proofs.Coordinates.{node_degree}
use Rattle.curve_nodes.proofs.Quarter.{quarter_x, quarter_y}
use Rattle.bound_rows.specs.Rule.{gap_of}
use Rattle.bound_enclosure.specs.AtDepth.{high_of, low_of}
use Rattle.bound_enclosure.proofs.Width.{width_gap}
use Rattle.bound_node.proofs.Sound.{low_high}
use Rattle.bound_node.proofs.Narrow.{narrow_meets}
use Rattle.bound_pieces.specs.Inside.{times}
use Rattle.bound_pieces.proofs.Boxes.{low_takes}
use Rattle.walk_tree.proofs.Failing.{passing_none}
use Rattle.walk_curve.specs.Walked.{node_meets, ends_of}
use Rattle.walk_depths.proofs.Depths.{ends_passing}
use Rattle.walk_depths.proofs.Few.{few_at}
use Rattle.band_room.specs.Inside.{Reaches, Few}

-- ---- a width of at most X over Z, and two: rounded down where X is below Z × (q + 1)
rounded : (Z X q : ℕ) (w : ℤ) → X < Z * (q + 1) → (pos Z *ℤ w) ≤ℤ (pos X +ℤ pos 2 *ℤ pos Z) → w ≤ℤ pos (q + 2)
rounded Z X q w h l = ⊎_elim (λ k. k) (λ k. absurd (clash_by (pos Z ∷ pos X ∷ pos q ∷ w ∷ [])
    (gap l +₀ gap< (pos_lt h) +₀ natural Z ×₀ gap< k) (search sides depth 40 fits 9999) refl)) (le_or_lt w (pos (q + 2)))

module _ (σ : Setting) (rows : HasRows σ.pieces) (T : ℤ) (c : Curve) (s : Sized 0 c) (few : c.degree ≤ 3) (M : ℕ) (under : largest c ≤ M) (j q : ℕ)
    (small : 16 * (gap_of σ.pieces c.degree * M) < 10000 * (scale σ * 4 ^ j) * (q + 1)) (fits : (pos 2 *ℤ squared (pos (q + 2))) ≤ℤ squared T) where
  takes : degree_pieces c.degree σ.pieces ≡ true
  takes = low_takes c.degree σ.pieces few

  module _ (n : ℕ) (hn : 0 < n) (e : depth n ≡ j) where
    abbrev p : Curve
    p = node_curve c n

    width_under : (cs : List ℤ) → ((k : ℕ) → k < c.degree - 1 → 4 ^ depth n * nat_abs (difference cs k) ≤ 2 ^ (c.degree * depth n) * largest c)
        → (i : ℕ) → i ≤ σ.pieces → (high_of σ c.degree (depth n) cs i -ℤ low_of σ c.degree (depth n) cs i) ≤ℤ pos (q + 2)
    width_under cs quarter i hi =
        let G = gap_of σ.pieces c.degree in
        let z = scale σ * 4 ^ depth n in
        let w = high_of σ c.degree (depth n) cs i -ℤ low_of σ c.degree (depth n) cs i in
        rounded (10000 * z) (16 * (G * M)) q w (rw e small)
        (le_by (pos G ∷ pos M ∷ pos z ∷ w ∷ [])
        (gap (width_gap σ rows c.degree (depth n) (4 ^ depth n) M cs s.most takes
        (λ k l. le_trans (quarter k l) (mul-le-mul (le_refl (2 ^ (c.degree * depth n))) under)) i hi)) (search sides depth 40 fits 9999) refl)

    sure_meets : node_meets σ T c n ≡ true
    sure_meets =
        let d = node_degree c n hn in
        narrow_meets σ T (depth n) p (record {
          each = λ i hi. ≤ℤ_trans (+ℤ_mono
              (square_mono {b = pos (q + 2)} (gap (low_high σ rows p.degree (depth n) p.x (rw d s.least) (rw d s.most) (rw d takes) i hi))
              (rw d (width_under p.x (quarter_x c s.least s.most n hn) i hi)))
              (square_mono {b = pos (q + 2)} (gap (low_high σ rows p.degree (depth n) p.y (rw d s.least) (rw d s.most) (rw d takes) i hi))
              (rw d (width_under p.y (quarter_y c s.least s.most n hn) i hi))))
              (≤ℤ_trans (le_by (pos (q + 2) ∷ []) (natural 0) (search sides depth 40) refl) fits);
        })

  sure_few : j ≤ 8 → Few σ T c (2 ^ j)
  sure_few l = record {
    passing = passing_none (node_meets σ T c) (ends_of σ T c)
        (ends_passing (node_meets σ T c) j sure_meets (deepest c.degree) (rw (deepest_low c.degree few) l));
    few = few_at (node_meets σ T c) j sure_meets (deepest c.degree);
  }

-- ---- in the numbers of the code: bend is at least 6 × G × M over the scale
module _ (σ : Setting) where
  cancelled : (b : Bool) (A P : ℕ) → 16 * (times b * A) < 60000 * P → 16 * A < 10000 * (cond b 6 1 * P)
  cancelled true A P h = omega (arith, h)
  cancelled false A P h = omega (arith, h)

below_next : (n q : ℕ) → 0 < q → n < q * (n / q + 1)
below_next n q h = omega (arith, div-add-mod n q, mod-lt n h, mul-add q (n / q) 1)

module _ (σ : Setting) (rows : HasRows σ.pieces) (T : ℤ) (c : Curve) (s : Sized 0 c) (few : c.degree ≤ 3) (M : ℕ) (under : largest c ≤ M) {g bend : ℕ}
    (gap_under : times σ.sixths * gap_of σ.pieces c.degree ≤ g) (is : bend ≡ g * M) where
  pub reaches_few : {n : ℕ} → Reaches bend T n → Few σ T c n
  reaches_few r =
      let j = r.depth in
      let q = bend / 4 ^ j / 3750 in
      let G = gap_of σ.pieces c.degree in
      let product : times σ.sixths * (G * M) ≤ bend = rw (is, ← mul_assoc (times σ.sixths) G M) (mul-le-mul gap_under (le_refl M)) in
      let part = below_next bend (4 ^ j * 3750) (omega (arith, pow4 j)) in
      let next : bend < 4 ^ j * 3750 * (q + 1) = rw (← div-div-eq-div-mul bend (4 ^ j) 3750) at part in
      let small : 16 * (times σ.sixths * (G * M)) < 60000 * (4 ^ j * (q + 1)) = omega (arith, product, next, mul_comm (4 ^ j) 3750, mul_assoc 3750 (4 ^ j) (q + 1)) in
      rw r.is (sure_few σ rows T c s few M under j q (turned j q (cancelled σ σ.sixths (G * M) (4 ^ j * (q + 1)) small)) r.fits r.within)
    where
      pow4 : (j : ℕ) → 0 < 4 ^ j
      pow4 j = one-le-pow j 4 (zero-lt-suc 3)

      turned : (j q : ℕ) → 16 * (gap_of σ.pieces c.degree * M) < 10000 * (scale σ * (4 ^ j * (q + 1)))
          → 16 * (gap_of σ.pieces c.degree * M) < 10000 * (scale σ * 4 ^ j) * (q + 1)
      turned j q h = rw (mul_assoc 10000 (scale σ * 4 ^ j) (q + 1), mul_assoc (scale σ) (4 ^ j) (q + 1)) h
