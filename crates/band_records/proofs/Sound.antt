-- The record of a leaf is sound, and so is a list of them: they pass checks 9 and 10.
use mathlib.Core.Path.{◌≡◌, refl, sym, ◌∙◌, ap, subst, subst₂}
use mathlib.Core.Bool.{true}
use mathlib.Core.Logic.{⊎_elim}
use mathlib.Core.List.{List, [], ◌∷◌, ◌++◌, Memᴰ}
use Prim.Native.Nat.{ℕ, zero, suc, ◌+◌, ◌-◌, ◌*◌, ◌/◌, ◌%◌, ◌^◌, ◌≤◌, ◌<◌}
use native.Mathlib.Nat.{le_trans, le_of_suc-le-suc, eq-or-lt_of_le}
use native.Mathlib.Omega.{arith}
use lib.Dec.{lit≤}
use lib.ListN.{length, length-append, get_or-append}
use lib.Seq.{get_or-append-add}
use lib.IntN.{ℤ, pos}
use Rattle.integers.specs.Entry.{entry}
use Rattle.integers.proofs.Order.{lt_or_ge, pos_le, pos_lt}
use Rattle.integers.proofs.Size.{abs_low, abs_high}
use Rattle.curve_nodes.specs.declared.Curve.{Curve}
use Rattle.curve_nodes.specs.Bounds.{Sized}
use Rattle.curve_nodes.specs.Nodes.{depth, node_curve}
use Rattle.curve_nodes.proofs.Coordinates.{node_degree}
use Rattle.curve_nodes.proofs.Sizes.{node_sized}
use Rattle.bound_node.specs.Boxes.{box_at}
use Rattle.bound_node.proofs.Sound.{Sound, node_box_law}
use Rattle.walk_curve.specs.Walked.{node_meets, ends_of}
use Rattle.band_records.specs.Records.{box_numbers, boxes_to, record_of, records_of}
use Rattle.setting.specs.Setting.{Setting, HasRows, break_points, record_length, degree_pieces, deepest}
use Rattle.setting.proofs.Depths.{deepest_few}
use Rattle.boxes.specs.Ranges.{farthest, Interval}
use Rattle.band_records.specs.Ranges.{SoundRecord, SoundList}
use Rattle.walk_tree.proofs.Leaves.{end_facts}
use Rattle.band_records.proofs.Writing.{boxes_length}
use Rattle.band_records.proofs.Lengths.{in_records, behind_records, record_length_law}

-- ---- one record: a leaf's
-- the four numbers of box i
box_at_law : (σ : Setting) (n k : ℕ) (c : Curve) (i s : ℕ) → i < n → s < 4 → entry (boxes_to σ n k c) (4 * i + s) ≡ entry (box_numbers (box_at σ k c i)) s
box_at_law σ zero k c i s hi hs = absurd (omega arith)
box_at_law σ (suc n) k c i s hi hs = ⊎_elim
    (λ e.
    ap (entry (boxes_to σ n k c ++ box_numbers (box_at σ k c n))) {x =
    4 * i + s} {y = length (boxes_to σ n k c) + s} (omega (arith, e, boxes_length σ n k c))
    ∙ get_or-append-add (boxes_to σ n k c) (box_numbers (box_at σ k c n)) s (pos 0) ∙ ap (λ j. entry (box_numbers (box_at σ k c j)) s) (sym e))
    (λ l. get_or-append (boxes_to σ n k c) (box_numbers (box_at σ k c n)) (pos 0) (4 * i + s) (omega (arith, boxes_length σ n k c))
    ∙ box_at_law σ n k c i s l hs)
    (eq-or-lt_of_le (le_of_suc-le-suc hi))

module _ (σ : Setting) (k : ℕ) (c : Curve) (n : ℕ) where
  pub record_curve : entry (record_of σ k c n) 0 ≡ pos k
  unfolding record_of
  record_curve = refl

  pub record_node : entry (record_of σ k c n) 1 ≡ pos n
  unfolding record_of
  record_node = refl

  pub record_box : (i s : ℕ) → i ≤ σ.pieces → s < 4
      → entry (record_of σ k c n) (4 * i + (2 + s)) ≡ entry (box_numbers (box_at σ (depth n) (node_curve c n) i)) s
  unfolding record_of
  record_box i s hi hs =
      ap (entry (record_of σ k c n)) {x = 4 * i + (2 + s)} {y = suc (suc (4 * i + s))} (omega arith)
      ∙ box_at_law σ (break_points σ) (depth n) (node_curve c n) i s (omega arith) hs

interval : {l h a b : ℤ} → a ≡ l → b ≡ h → Sound (2 ^ 28) l h → Interval a b
interval {l} {h} e f s = rw (e, f) (record {
  from = abs_low {B = farthest} l (le_trans s.low_size (lit≤ tt));
  order = s.order;
  to = abs_high {B = farthest} h (le_trans s.high_size (lit≤ tt));
})

pub leaf_sound : (σ : Setting) → HasRows σ.pieces → (T : ℤ) (k : ℕ) (c : Curve) (n : ℕ) → k < σ.most → Sized 0 c
    → degree_pieces c.degree σ.pieces ≡ true → Memᴰ n (ends_of σ T c) → SoundRecord σ (entry (record_of σ k c n))
unfolding record_of
leaf_sound σ rows T k c n hk s takes i =
    let f = end_facts (node_meets σ T c) (deepest c.degree) n i in
    let b = node_box_law σ rows (depth n) (node_curve c n) (node_sized s n f.node) (rw (node_degree c n f.node) takes) in
    record {
      curve_from = pos_le (omega arith);
      curve_below = pos_lt hk;
      node_from = pos_le f.node;
      node_to = pos_le (omega (arith, f.below, deepest_few c.degree));
      x = λ i h. interval (record_box σ k c n i 0 h (omega arith)) (record_box σ k c n i 1 h (omega arith)) (b i h).x;
      y = λ i h. interval (record_box σ k c n i 2 h (omega arith)) (record_box σ k c n i 3 h (omega arith)) (b i h).y;
    }

-- ---- by place: side s is the low and the high at places 2s + 2 and 2s + 3; a number of a box is one or the other
module _ {σ : Setting} {number : ℕ → ℤ} (r : SoundRecord σ number) where
  pub each_side : (s : ℕ) → s < 2 * break_points σ → Interval (number (2 * s + 2)) (number (2 * s + 3))
  each_side s h = ⊎_elim
      (λ e. subst (λ p. Interval (number (p + 2)) (number (p + 3))) {x = 4 * (s / 2)} {y = 2 * s} (omega arith) (r.x (s / 2) (omega arith)))
      (λ e. subst₂ (λ p q. Interval (number p) (number q)) {x = 4 * (s / 2) + 4} {y = 2 * s + 2} {u = 4 * (s / 2) + 5} {v = 2 * s + 3}
      (omega arith) (omega arith) (r.y (s / 2) (omega arith)))
      (lt_or_ge (s % 2) 1)

-- ---- lists of records
module _ {σ : Setting} where
  -- the numbers at the places of a record decide
  same : {f g : ℕ → ℤ} → ((p : ℕ) → p < record_length σ → g p ≡ f p) → SoundRecord σ f → SoundRecord σ g
  same e s = record {
    curve_from = rw (e 0 (omega arith)) s.curve_from;
    curve_below = rw (e 0 (omega arith)) s.curve_below;
    node_from = rw (e 1 (omega arith)) s.node_from;
    node_to = rw (e 1 (omega arith)) s.node_to;
    x = λ i h. rw (e (4 * i + 2) (omega arith), e (4 * i + 3) (omega arith)) (s.x i h);
    y = λ i h. rw (e (4 * i + 4) (omega arith), e (4 * i + 5) (omega arith)) (s.y i h);
  }

  pub list_nil : SoundList σ 0 []
  list_nil = record { whole = omega arith; each = λ i h. absurd (omega arith) }

  list_one : (r : List ℤ) → length r ≡ record_length σ → SoundRecord σ (entry r) → SoundList σ 1 r
  list_one r e s = record {
    whole = omega (arith, e);
    each = λ i h. let z : i ≡ 0 = omega arith in same (λ p l. ap (entry r) {x = record_length σ * i + p} {y = p} (rw z (omega arith))) s;
  }

  pub list_append : {m n : ℕ} {a b : List ℤ} → SoundList σ m a → SoundList σ n b → SoundList σ (m + n) (a ++ b)
  list_append {m} {n} {a} {b} s t = record {
    whole = length-append a b ∙ omega (arith, s.whole, t.whole);
    each = λ i h. ⊎_elim
        (λ l. same (λ p q. get_or-append a b (pos 0) (record_length σ * i + p)
        (omega (arith, s.whole, in_records (record_length σ) i m p l q))) (s.each i l))
        (λ l. same (λ p q.
        ap (entry (a ++ b)) {x = record_length σ * i + p} {y = length a + (record_length σ * (i - m) + p)}
        (omega (arith, s.whole, behind_records (record_length σ) i m l))
        ∙ get_or-append-add a b (record_length σ * (i - m) + p) (pos 0)) (t.each (i - m) (omega arith)))
        (lt_or_ge i m);
  }

  pub list_records : (k : ℕ) (c : Curve) (ns : List ℕ) → ((n : ℕ) → Memᴰ n ns → SoundRecord σ (entry (record_of σ k c n)))
      → SoundList σ (length ns) (records_of σ k c ns)
  unfolding records_of
  list_records k c [] h = list_nil
  list_records k c (n ∷ ns) h = subst (λ m. SoundList σ m (record_of σ k c n ++ records_of σ k c ns)) {x = 1 + length ns} {y = suc (length ns)}
      (omega arith) (list_append (list_one (record_of σ k c n) (record_length_law σ k c n) (h n (Memᴰ.head refl)))
      (list_records k c ns (λ m i. h m (Memᴰ.tail i))))
