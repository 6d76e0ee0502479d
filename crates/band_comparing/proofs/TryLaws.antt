-- A node tried: what each of its boxes says, taken together.
use mathlib.Core.Path.{◌≡◌, refl, sym, ◌∙◌, ap, ap₂}
use mathlib.Core.Bool.{Bool, true, false, not}
use mathlib.Core.List.{List, [], ◌∷◌}
use Prim.Native.Nat.{ℕ, ◌+◌, ◌*◌, ◌^◌, ◌≤◌, ◌<◌}
use native.Mathlib.Nat.{le_refl, mul-le-mul}
use native.Mathlib.Numerals.{add-one, add-two}
use native.Mathlib.Omega.{arith}
use lib.ListN.{length}
use lib.IntN.{ℤ, pos, ◌+ℤ◌, ◌-ℤ◌, ◌*ℤ◌}
use lib.Signed.{lt_z}
use Rattle.std.specs.Prelude.{Option, Some, None}
use Rattle.setting.specs.Setting.{Setting, HasRows, lists, break_points}
use Rattle.setting.proofs.Depths.{deepest_low, deepest_high}
use Rattle.setting.proofs.Pieces.{degree_takes}
use Rattle.integers.specs.Squares.{squared}
use mir.Syntax.{w64}
use mir.Val.{SFits}
use mir.Facts.{to_z-of_z}
use Rattle.integers.proofs.Clash.{clash}
use Rattle.integers.proofs.Ranges.{stored}
use Rattle.bound_coordinate.specs.Inside.{Computed}
use Rattle.bound_coordinate.proofs.Coordinates.{stored_is, restored}
use Rattle.curve_halves.specs.Sizes.{Each}
use Rattle.curve_nodes.specs.declared.Curve.{Curve}
use Rattle.curve_nodes.specs.Bounds.{Sized}
use Rattle.bound_row_table.specs.Inside.{Copied}
use Rattle.bound_coordinate.specs.declared.terms.Terms.{Terms}
use Rattle.bound_coordinate.specs.Terms.{terms_of, ComputableAt}
use Rattle.bound_coordinate.specs.declared.higher.HigherTerms.{HigherTerms}
use Rattle.bound_coordinate.specs.HigherTerms.{higher_of, HigherComputable}
use Rattle.bound_coordinate.proofs.Chosen.{computable, higher_computable}
use Rattle.bound_pieces.specs.Inside.{pieces_by, pieces_of, PiecesReady, across_by, higher_across_by}
use Rattle.bound_node.specs.Boxes.{box_at, meets}
use Rattle.bound_node.proofs.Narrow.{diagonal}
use Rattle.bound_tolerance.proofs.ToleranceLaws.{Passed, passed_none, passed_next, Diagonals, box_fails, boxes_pass, square_is}
use Rattle.bound_tolerance.proofs.ToleranceLaws.{across_is, higher_across_is}
use Rattle.band_records.specs.Records.{box_numbers, boxes_to, node_numbers}
use Rattle.band_records.specs.Inside.{box_by}
use Rattle.band_records.proofs.Writing.{joined_to, joined_length, boxes_are, box_is, higher_box_is}
use Rattle.band_comparing.specs.Inside.{reach_number, reach_of, tried_of, BoxGiven, Tryable, higher_box_by}
use Rattle.band_comparing.proofs.ReachLaws.{reach_less, reach_parts}

-- ---- what an answer says
pub box_wide : {b : Bool} (r : ℕ) → b ≡ true → None ≡ tried_of (not b) r
box_wide r e = rw e

pub box_narrow : {b : Bool} {r s : ℕ} → b ≡ false → s ≡ r → Some s ≡ tried_of (not b) r
box_narrow e f = rw (e, f)

-- four numbers, as the code holds them
pub held_four : (g : List ℤ) (reach at : ℕ) {a b c d a' b' c' d' : ℤ} {r : ℕ} → a' ≡ a → b' ≡ b → c' ≡ c → d' ≡ d
    → r ≡ reach_of g reach at (a' ∷ b' ∷ c' ∷ d' ∷ []) → r ≡ reach_of g reach at (a ∷ b ∷ c ∷ d ∷ [])
held_four g reach at ea eb ec ed e = e ∙ (λ j. reach_of g reach at (ea j ∷ eb j ∷ ec j ∷ ed j ∷ []))

-- the lows and the highs of a box, as the code holds them
module _ {x₀ x₁ y₀ y₁ a b c d : ℤ} (p : Computed (2 ^ 28) a x₀) (q : Computed (2 ^ 28) b x₁) (r : Computed (2 ^ 28) c y₀) (s : Computed (2 ^ 28) d y₁) where
  pub box_given : {g : List ℤ} {reach at : ℕ} → reach ≤ length g → at + 4 ≤ 2 ^ 63
      → BoxGiven g reach at (stored w64 x₀) (stored w64 x₁) (stored w64 y₀) (stored w64 y₁)
  box_given h k = record {
    there = h;
    place = k;
    of_left = record { size = (restored p tt).size };
    of_right = record { size = (restored q tt).size };
    of_low = record { size = (restored r tt).size };
    of_high = record { size = (restored s tt).size };
  }

  pub sides_tried : (g : List ℤ) (reach at : ℕ) {square : ℤ} → SFits w64 square → {r : Option ℕ}
      → r ≡ tried_of (not (lt_z (stored w64 square) (squared (stored w64 x₁ -ℤ stored w64 x₀) +ℤ squared (stored w64 y₁ -ℤ stored w64 y₀))))
      (reach_of g reach at (stored w64 x₀ ∷ stored w64 x₁ ∷ stored w64 y₀ ∷ stored w64 y₁ ∷ []))
      → r ≡ tried_of (not (lt_z square (squared (b -ℤ a) +ℤ squared (d -ℤ c)))) (reach_of g reach at (a ∷ b ∷ c ∷ d ∷ []))
  sides_tried g reach at h e = e ∙ (λ j. tried_of
      (not (lt_z (to_z-of_z h j) (squared (stored_is q tt j -ℤ stored_is p tt j) +ℤ squared (stored_is s tt j -ℤ stored_is r tt j))))
      (reach_of g reach at (stored_is p tt j ∷ stored_is q tt j ∷ stored_is r tt j ∷ stored_is s tt j ∷ [])))

-- the two numbers of a node before its boxes
pub node_head : (g : List ℤ) (reach at k n : ℕ) (boxes : List ℤ) {a b : ℤ} {r₁ r₂ : ℕ} → a ≡ pos k → b ≡ pos n → r₁ ≡ reach_number g reach at a
    → r₂ ≡ reach_number g r₁ (at + 1) b → reach_of g r₂ (at + 2) boxes ≡ reach_of g reach at (node_numbers k n boxes)
unfolding reach_of
node_head g reach at k n boxes ea eb e f =
    ap (λ q. reach_of g q (at + 2) boxes) (f ∙ ap₂ (λ q z. reach_number g q (at + 1) z) (e ∙ ap (reach_number g reach at) ea) eb)
    ∙ rw (add-one, add-two)

pub told_wide : (b : Bool) (r : ℕ) → None ≡ tried_of b r → b ≡ false
told_wide true r e = clash (cc)
told_wide false r e = refl

pub told_narrow : (b : Bool) (r s : ℕ) → Some s ≡ tried_of b r → (b ≡ true) × (s ≡ r)
told_narrow true r s e = (refl, cc)
told_narrow false r s e = clash (cc)

pub not_true : {b : Bool} → not b ≡ true → b ≡ false
not_true {b} e = go b e
  where
    go : (t : Bool) → not t ≡ true → t ≡ false
    go true f = clash (cc)
    go false f = refl

pub not_false : {b : Bool} → not b ≡ false → b ≡ true
not_false {b} e = go b e
  where
    go : (t : Bool) → not t ≡ false → t ≡ true
    go true f = refl
    go false f = clash (cc)

-- ---- the boxes before break point i are narrow, and the numbers agree so far
pub record Going (g : List ℤ) (reach at m : ℕ) (across : ℕ → ℤ) (square : ℤ) (box : ℕ → List ℤ) (i to : ℕ) : Type 0 where
  pub passed : Passed m square across i
  pub is : to ≡ reach_of g reach at (joined_to i box)

module _ (g : List ℤ) (reach at m : ℕ) (across : ℕ → ℤ) (square : ℤ) (box : ℕ → List ℤ) where
  pub going_start : Going g reach at m across square box 0 reach
  unfolding reach_of
  going_start = record { passed = passed_none; is = refl }

  module _ (four : (i : ℕ) → length (box i) ≡ 4) {i to : ℕ} (h : Going g reach at m across square box i to) where
    pub going_less : to ≤ reach
    going_less = omega (arith, h.is, reach_less g reach at (joined_to i box))

    pub going_on : i ≤ m → (n : ℕ) → Some n ≡ tried_of (not (lt_z square (across i))) (reach_of g to (at + 4 * i) (box i))
        → Going g reach at m across square box (i + 1) n
    going_on inside n e =
        let t = told_narrow (not (lt_z square (across i))) (reach_of g to (at + 4 * i) (box i)) n e in
        record {
          passed = passed_next h.passed inside refl (not_true t.0);
          is = t.1 ∙ ap₂ (λ p q. reach_of g p (at + q) (box i)) h.is (sym (joined_length box four i))
              ∙ sym (reach_parts g reach at (joined_to i box) (box i)) ∙ ap (λ n. reach_of g reach at (joined_to n box)) (sym (add-one i));
        }

-- ---- the node: its boxes are those that the loop finds
pub record Finds (σ : Setting) (T : ℤ) (k : ℕ) (c : Curve) (across : ℕ → ℤ) (square : ℤ) (box : ℕ → List ℤ) : Type 0 where
  pub diagonals : Diagonals σ k c T across square
  pub boxes : (i : ℕ) → i ≤ σ.pieces → box i ≡ box_numbers (box_at σ k c i)

module _ {σ : Setting} {T : ℤ} {k : ℕ} {c : Curve} {across : ℕ → ℤ} {square : ℤ} {box : ℕ → List ℤ} (f : Finds σ T k c across square box)
    (g : List ℤ) (reach at : ℕ) where
  pub going_wide : (i r : ℕ) → i ≤ σ.pieces → None ≡ tried_of (not (lt_z square (across i))) r
      → None ≡ tried_of (meets σ T k c) (reach_of g reach at (boxes_to σ (break_points σ) k c))
  going_wide i r h e =
      ap (λ b. tried_of b (reach_of g reach at (boxes_to σ (break_points σ) k c)))
      (box_fails f.diagonals i h refl (not_false (told_wide (not (lt_z square (across i))) r e)))

  pub going_done : {i to : ℕ} → Going g reach at σ.pieces across square box i to → σ.pieces < i
      → Some to ≡ tried_of (meets σ T k c) (reach_of g reach at (boxes_to σ (break_points σ) k c))
  going_done {i} {to} h all =
      let e : i ≡ break_points σ = omega (arith, h.passed.most) in
      ap Some (h.is ∙ ap (λ n. reach_of g reach at (joined_to n box)) e
      ∙ ap (reach_of g reach at) (boxes_are σ k c f.boxes (break_points σ) (le_refl (break_points σ))))
      ∙ ap (λ b. tried_of b (reach_of g reach at (boxes_to σ (break_points σ) k c))) (boxes_pass f.diagonals h.passed all)

-- ---- with m pieces and control values in units
pub ready_of : {m : ℕ} {rows : List ℤ} → HasRows m → Copied m rows → PiecesReady (pieces_of m false) rows
unfolding pieces_of pieces_by
ready_of h copied = record { has = h; is = refl; copied = copied }

one_time : (m : ℕ) → m ≡ m * 1
one_time m = omega arith

module _ {m k : ℕ} {rows : List ℤ} (h : HasRows m) (copied : Copied m rows) {c : Curve} (sized : Sized k c) where
  module _ (few : c.degree ≤ 3) {x y : Terms} (ex : x ≡ terms_of m c.degree c.x) (ey : y ≡ terms_of m c.degree c.y) where
    low_across : (i : ℕ) → i ≤ m → across_by m (c.degree * k) rows x y i ≡ diagonal (lists m) k c i
    unfolding pieces_of pieces_by
    low_across i hi = ap (λ q. across_by q (c.degree * k) rows x y i) (one_time m) ∙ across_is (ready_of h copied) sized few ex ey i hi

    low_box : (i : ℕ) → i ≤ m → box_by m (c.degree * k) rows x y i ≡ box_numbers (box_at (lists m) k c i)
    low_box i hi = ap (λ q. box_by q (c.degree * k) rows x y i) (one_time m) ∙ box_is (lists m) h k c sized copied few ex ey i hi

  module _ (many : 3 < c.degree) (three : 3 ≤ m) {x y : HigherTerms} (ex : x ≡ higher_of m c.degree (c.degree * k) c.x)
      (ey : y ≡ higher_of m c.degree (c.degree * k) c.y) where
    high_across : (i : ℕ) → i ≤ m → higher_across_by m (c.degree * k) rows x y i ≡ diagonal (lists m) k c i
    unfolding pieces_of pieces_by
    high_across i hi = higher_across_is (ready_of h copied) sized many three refl ex ey i hi

    high_box : (i : ℕ) → i ≤ m → higher_box_by m (c.degree * k) rows x y i ≡ box_numbers (box_at (lists m) k c i)
    high_box i hi = higher_box_is (lists m) h k c sized copied many refl three ex ey i hi

-- ---- what the test of a node asks, for degrees 1 to 3 and for degrees 4 and 5
module _ {g : List ℤ} {reach at few m scale : ℕ} {rows : List ℤ} {k : ℕ} {c : Curve} {t : ℤ} (h : Tryable g reach at few m scale rows k c t) where
  pub low_depth : c.degree ≤ 3 → k ≤ 8
  low_depth l = rw (deepest_low c.degree l) at h.shallow

  pub high_depth : 3 < c.degree → k ≤ 4
  high_depth l = rw (deepest_high c.degree l) at h.shallow

  pub high_shift : 3 < c.degree → c.degree * k ≤ 20
  high_shift l = mul-le-mul h.sized.most (high_depth l)

  high_pieces : 3 < c.degree → 3 ≤ m
  high_pieces l = (degree_takes c.degree m).0 h.takes l

  -- the bounds of a coordinate can be computed, at degrees 1 to 3 at a break point
  pub low_computable : {x : Terms} {cs : List ℤ} {i : ℕ} → c.degree ≤ 3 → Each (2 ^ 20 * 2 ^ (c.degree * k)) cs → x ≡ terms_of m c.degree cs
      → i ≤ m → ComputableAt m (c.degree * k) scale i rows x
  low_computable l each e point = record {
    m = m;
    computable = rw e
        (computable h.lent.has (le_refl m) (omega (arith, h.lent.has.most)) h.lent.copied l (low_depth l) each h.lent.scaled);
    point = point;
  }

  pub high_computable : {x : HigherTerms} {cs : List ℤ} → 3 < c.degree → Each (2 ^ 20 * 2 ^ (c.degree * k)) cs
      → x ≡ higher_of m c.degree (c.degree * k) cs → HigherComputable m (c.degree * k) scale rows x
  high_computable l each e = rw e (higher_computable h.lent.has h.lent.copied l h.sized.most (high_depth l) each h.lent.scaled)

  -- what the loop finds
  pub low_found : {x y : Terms} → c.degree ≤ 3 → x ≡ terms_of m c.degree c.x → y ≡ terms_of m c.degree c.y
      → Finds (lists m) t k c (across_by m (c.degree * k) rows x y) (stored w64 (stored w64 t *ℤ stored w64 t)) (box_by m (c.degree * k) rows x y)
  low_found l ex ey = record {
    diagonals = record { each = low_across h.lent.has h.lent.copied h.sized l ex ey; square = square_is h.small };
    boxes = low_box h.lent.has h.lent.copied h.sized l ex ey;
  }

  pub high_found : {x y : HigherTerms} → 3 < c.degree → x ≡ higher_of m c.degree (c.degree * k) c.x
      → y ≡ higher_of m c.degree (c.degree * k) c.y
      → Finds (lists m) t k c (higher_across_by m (c.degree * k) rows x y) (stored w64 (stored w64 t *ℤ stored w64 t))
      (higher_box_by m (c.degree * k) rows x y)
  high_found l ex ey = record {
    diagonals = record { each = high_across h.lent.has h.lent.copied h.sized l (high_pieces l) ex ey; square = square_is h.small };
    boxes = high_box h.lent.has h.lent.copied h.sized l (high_pieces l) ex ey;
  }
