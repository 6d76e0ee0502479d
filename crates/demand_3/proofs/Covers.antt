-- The covers of a leaf: a point of the curve at a parameter of the leaf is held by one of them, and what one of them holds is within the tolerance
-- of the curve. Both coordinates take the same parameter, since the place of a parameter on a piece does not depend on the control values.
use mathlib.Core.Path.{◌≡◌, sym, ◌∙◌, ap, subst}
use mathlib.Core.Bool.{true}
use mathlib.Core.List.{List}
use Prim.Native.Nat.{ℕ, suc, ◌+◌, ◌*◌, ◌^◌, ◌≤◌, ◌<◌}
use native.Mathlib.Omega.{arith}
use lib.IntN.{ℤ}
use Rattle.integers.specs.Entry.{entry}
use Rattle.integers.proofs.Order.{gap, nonneg_natural, pos_le}
use Rattle.curve_nodes.specs.declared.Curve.{Curve}
use Rattle.curve_nodes.specs.Bounds.{Sized}
use Rattle.curve_nodes.specs.Nodes.{depth, start, node_curve}
use Rattle.curve_nodes.specs.Points.{Equals, Within}
use Rattle.curve_nodes.proofs.Coordinates.{node_values, node_curve_law}
use Rattle.bound_enclosure.specs.AtDepth.{low_of, high_of}
use Rattle.bound_node.specs.Boxes.{box_at}
use Rattle.bound_rows.proofs.Places.{located}
use Rattle.bound_node.proofs.Narrow.{Narrow, meets_narrow}
use Rattle.walk_tree.specs.Leaves.{Spans}
use Rattle.walk_curve.specs.Walked.{node_meets}
use Rattle.boxes.specs.declared.Box.{Box}
use Rattle.setting.specs.Setting.{Setting, HasRows, scale, covers, record_length, degree_pieces}
use Rattle.boxes.specs.Records.{box_index, box_at_index}
use Rattle.band_records.specs.Records.{box_numbers, record_of}
use Rattle.band_records.proofs.Sound.{record_box}
use Rattle.band_records.proofs.Standing.{Stands}
use Rattle.judge_cover.specs.Covers.{Holds}
use Rattle.demand_3.proofs.Mixtures.{up_p, up_r, down_sum, point_mixed, mixed_within}

-- one of the covers between these boxes holds the point
pub record Held (σ : Setting) (box : ℕ → Box) (x y : ℤ) : Type 0 where
  pub cover : ℕ
  pub inside : cover < covers σ
  pub holds : Holds (box cover) (box (suc cover)) x y

-- the curve of node n, coordinate by coordinate
abbrev by_coordinate : Curve → ℕ → Curve
by_coordinate c n = record { degree = c.degree; x = node_values c.degree c.x n; y = node_values c.degree c.y n }

-- the box at break point i of node n
abbrev pub node_box : Setting → Curve → ℕ → ℕ → Box
node_box σ c n i =
    let xs = node_values c.degree c.x n in
    let ys = node_values c.degree c.y n in
    record {
      x_low = low_of σ c.degree (depth n) xs i;
      x_high = high_of σ c.degree (depth n) xs i;
      y_low = low_of σ c.degree (depth n) ys i;
      y_high = high_of σ c.degree (depth n) ys i;
    }

-- ---- in a list where the record of node n stands
module _ (σ : Setting) (c : Curve) (n : ℕ) (hn : 0 < n) {rs : List ℤ} {j : ℕ} (k : ℕ) (there : Stands σ rs j (record_of σ k c n))
    (i : ℕ) (hi : i ≤ σ.pieces) where
  number_there : (q at : ℕ) → q < 4 → at ≡ box_index σ j i + q
      → entry rs at ≡ entry (box_numbers (box_at σ (depth n) (by_coordinate c n) i)) q
  number_there q at hq e =
      ap (entry rs) {x = at} {y = record_length σ * j + (4 * i + (2 + q))} (omega arith)
      ∙ there.number (4 * i + (2 + q)) (omega arith)
      ∙ record_box σ k c n i q hi hq
      ∙ ap (λ a. entry (box_numbers (box_at σ (depth n) a i)) q) (node_curve_law c n hn)

  pub box_there : box_at_index rs (box_index σ j i) ≡ node_box σ c n i
  unfolding box_at
  box_there =
      let at = box_index σ j i in
      let e0 = number_there 0 at (omega arith) (omega arith) in
      let e1 = number_there 1 (at + 1) (omega arith) (omega arith) in
      let e2 = number_there 2 (at + 2) (omega arith) (omega arith) in
      let e3 = number_there 3 (at + 3) (omega arith) (omega arith) in
      rw (e0, e1, e2, e3)

module _ (σ : Setting) (rows : HasRows σ.pieces) (c : Curve) (s : Sized 0 c) (takes : degree_pieces c.degree σ.pieces ≡ true) (n : ℕ)
    (hn : 0 < n) where
  -- ---- a point of the curve
  pub point_held : (p r : ℕ) → 0 < p + r → Spans n p r → (x y : ℤ) → Equals (scale σ) c p r x y → Held σ (node_box σ c n) x y
  point_held p r some within x y equals =
      let P = nonneg_natural (gap (pos_le within.from)) in
      let to = subst (λ m. 2 ^ depth n * p ≤ m * (p + r)) {x = start n + 1} {y = suc (start n)} (omega arith) within.to in
      let R = nonneg_natural (gap (pos_le to)) in
      let l = located σ.pieces P.0 R.0 rows.least in
      let sum = down_sum n p r P.0 R.0 (sym P.1) (sym R.1) in
      record {
        cover = l.piece;
        inside = l.inside;
        holds = record {
          a = l.near;
          b = l.far;
          some = omega (arith, l.place.whole, sum);
          in_x = point_mixed σ rows c.degree s.least s.most takes c.x n hn p r P.0 R.0 some (sym P.1) (sym R.1) l x
              equals.in_x;
          in_y = point_mixed σ rows c.degree s.least s.most takes c.y n hn p r P.0 R.0 some (sym P.1) (sym R.1) l y
              equals.in_y;
        };
      }

  -- ---- a point that a cover of a leaf holds
  pub held_near : (T : ℤ) → node_meets σ T c n ≡ true → (i : ℕ) → i < σ.pieces
      → (x y : ℤ) (h : Holds (node_box σ c n i) (node_box σ c n (suc i)) x y)
      → Within (scale σ) T c (up_p σ.pieces n i h.a h.b) (up_r σ.pieces n i h.a h.b) x y
  held_near T meet i hi x y h =
      let narrow = subst (Narrow σ T (depth n)) (node_curve_law c n hn) (meets_narrow σ T (depth n) (node_curve c n) meet) in
      mixed_within σ rows c s.least s.most takes n hn i h.a h.b hi T x y (narrow.each i (omega arith)) (narrow.each (suc i) hi)
      h.in_x h.in_y
