-- What a run of stores leaves in a list, `sets` of lib.Seq, a list that is filled from the front, and that the boxes of the terms are the curve's.
use mathlib.Core.Path.{◌≡◌, refl, sym, ◌∙◌, ap, ap₂}
use mathlib.Core.List.{List, [], ◌∷◌, ◌++◌}
use mathlib.Core.Bool.{true, false}
use Prim.Native.Nat.{ℕ, zero, suc, ◌+◌, ◌*◌, ◌≤◌, ◌<◌}
use native.Mathlib.Nat.{le_refl, le_of_suc-le-suc, lt_irrefl}
use native.Mathlib.Omega.{arith}
use native.Mathlib.Numerals.{add-one, add-two, add-three}
use lib.ListN.{length, set, length-append, length-set}
use lib.Seq.{sets, length-sets, set_comm}
use lib.IntN.{ℤ, pos}
use Rattle.setting.specs.Setting.{Setting, HasRows, break_points, degree_pieces, scale}
use Rattle.setting.proofs.Pieces.{degree_takes}
use Rattle.integers.proofs.Stores.{sets_append}
use Rattle.curve_nodes.specs.declared.Curve.{Curve}
use Rattle.curve_nodes.specs.Bounds.{Sized}
use Rattle.curve_nodes.specs.Nodes.{depth}
use Rattle.bound_row_table.specs.Inside.{Copied}
use Rattle.bound_coordinate.specs.declared.terms.Terms.{Terms}
use Rattle.bound_coordinate.specs.Terms.{terms_of}
use Rattle.bound_coordinate.specs.declared.higher.HigherTerms.{HigherTerms}
use Rattle.bound_coordinate.specs.HigherTerms.{higher_of, higher_low, higher_high}
use Rattle.bound_coordinate.proofs.LowHigh.{low_is, high_is, higher_low_is, higher_high_is}
use Rattle.bound_node.specs.Boxes.{box_at}
use Rattle.band_records.specs.Records.{box_numbers, boxes_to, node_numbers}
use Rattle.band_records.specs.Inside.{box_from, box_by, put_pairs, put_pairs_by}

-- stores keep the length
pub kept : (l : List ℤ) (at : ℕ) (vs : List ℤ) {l' : List ℤ} → l' ≡ sets l at vs → length l' ≡ length l
kept l at vs e = ap length e ∙ length-sets l at vs

-- four stores, one after the other
pub four_sets : (l : List ℤ) (at : ℕ) {a b c d a' b' c' d' : ℤ} → a' ≡ a → b' ≡ b → c' ≡ c → d' ≡ d
    → set (set (set (set l at a') (at + 1) b') (at + 2) c') (at + 3) d' ≡ sets l at (a ∷ b ∷ c ∷ d ∷ [])
four_sets l at {a} {b} {c} {d} {c' = u} {d' = v} ea eb ec ed =
    ap₂ (λ x y. set (set (set (set l at x) (at + 1) y) (at + 2) u) (at + 3) v) ea eb
    ∙ ap₂ (λ x y. set (set (set (set l at a) (at + 1) b) (at + 2) x) (at + 3) y) ec ed
    ∙ rw (add-one, add-two, add-three)

pub numbers_kept : (l : List ℤ) (at k n : ℕ) {head : List ℤ} → head ≡ sets l at (pos k ∷ pos n ∷ []) → length head ≡ length l
numbers_kept l at k n = kept l at (pos k ∷ pos n ∷ [])

-- the record of a node: its two numbers, in front of its boxes
module _ (σ : Setting) (c : Curve) (l : List ℤ) (at k n : ℕ) {e : ℕ} {head whole : List ℤ} (deep : e ≡ depth n)
    (numbers : head ≡ sets l at (pos k ∷ pos n ∷ [])) (boxes : whole ≡ sets head (at + 2) (boxes_to σ (break_points σ) e c)) where
  pub head_sets : whole ≡ sets l at (node_numbers k n (boxes_to σ (break_points σ) (depth n) c))
  head_sets = boxes ∙ ap₂ (λ h j. sets h (at + 2) (boxes_to σ (break_points σ) j c)) numbers deep ∙ rw add-two

  pub head_kept : length whole ≡ length l
  head_kept = kept l at (node_numbers k n (boxes_to σ (break_points σ) (depth n) c)) head_sets

-- ---- the boxes of a node
pub boxes_length : (σ : Setting) (n k : ℕ) (c : Curve) → length (boxes_to σ n k c) ≡ 4 * n
boxes_length σ zero k c = refl
boxes_length σ (suc n) k c = length-append (boxes_to σ n k c) (box_numbers (box_at σ k c n)) ∙ ap (λ m. m + 4) (boxes_length σ n k c) ∙ four_more n
  where
    four_more : (n : ℕ) → 4 * n + 4 ≡ 4 * suc n
    four_more n = omega arith

-- ---- lists of four, one after the other: f 0, f 1, .., n in all
abbrev pub joined_to : ℕ → (ℕ → List ℤ) → List ℤ
joined_to zero f = []
joined_to (suc n) f = joined_to n f ++ f n

module _ (f : ℕ → List ℤ) (four : (i : ℕ) → length (f i) ≡ 4) where
  pub joined_length : (n : ℕ) → length (joined_to n f) ≡ 4 * n
  joined_length zero = refl
  joined_length (suc n) = length-append (joined_to n f) (f n) ∙ ap₂ ◌+◌ (joined_length n) (four n) ∙ four_more n
    where
      four_more : (n : ℕ) → 4 * n + 4 ≡ 4 * suc n
      four_more n = omega arith

  -- one more
  module _ (l : List ℤ) (at i : ℕ) {u l' : List ℤ} (e : u ≡ sets l at (joined_to i f)) (g : l' ≡ sets u (at + 4 * i) (f i)) where
    joined_suc : l' ≡ sets l at (joined_to (suc i) f)
    joined_suc =
        g ∙ ap (λ u. sets u (at + 4 * i) (f i)) e
        ∙ ap (λ j. sets (sets l at (joined_to i f)) (at + j) (f i)) (sym (joined_length i))
        ∙ sym (sets_append l at (joined_to i f) (f i))

    pub joined_more : l' ≡ sets l at (joined_to (i + 1) f)
    joined_more = joined_suc ∙ ap (λ n. sets l at (joined_to n f)) (sym (add-one i))

pub box_four : (a b c d : ℕ → ℤ) (i : ℕ) → length (box_from a b c d i) ≡ 4
unfolding box_from
box_four a b c d i = refl

-- ---- pairs, four places apart, and boxes of two of them
pub pairs_length : (l : List ℤ) (at : ℕ) (f g : ℕ → ℤ) (n : ℕ) → length (put_pairs l at f g n) ≡ length l
pairs_length l at f g zero = refl
pairs_length l at f g (suc n) = simp length-set (pairs_length l at f g n)

-- one more
pub pairs_more : (l : List ℤ) (at : ℕ) (f g : ℕ → ℤ) (i : ℕ) {u : List ℤ} {a b : ℤ} → u ≡ put_pairs l at f g i → a ≡ f i → b ≡ g i
    → set (set u (at + 4 * i) a) (at + 4 * i + 1) b ≡ put_pairs l at f g (i + 1)
pairs_more l at f g i e ea eb = (λ j. set (set (e j) (at + 4 * i) (ea j)) (at + 4 * i + 1) (eb j)) ∙ ap (put_pairs l at f g) (sym (add-one i))

-- a store behind the pairs may come before them
pairs_set : (l : List ℤ) (at : ℕ) (f g : ℕ → ℤ) (n p : ℕ) (a : ℤ) → at + 4 * n ≤ p + 2
    → put_pairs (set l p a) at f g n ≡ set (put_pairs l at f g n) p a
pairs_set l at f g zero p a h = refl
pairs_set l at f g (suc n) p a h =
    let q = at + 4 * n in
    let u = put_pairs l at f g n in
    ap (λ v. set (set v q (f n)) (q + 1) (g n)) (pairs_set l at f g n p a (omega arith))
    ∙ ap (λ v. set v (q + 1) (g n)) (set_comm u p q a (f n) (λ e. lt_irrefl p (omega arith)))
    ∙ set_comm (set u q (f n)) p (q + 1) a (g n) (λ e. lt_irrefl p (omega arith))

-- the pairs of both coordinates are boxes
module _ (a b c d : ℕ → ℤ) where
  pub pairs_boxes : (l : List ℤ) (at n : ℕ) → put_pairs (put_pairs l at a b n) (at + 2) c d n ≡ sets l at (joined_to n (box_from a b c d))
  unfolding box_from
  pairs_boxes l at zero = refl
  pairs_boxes l at (suc n) =
      let q = at + 4 * n in
      let u = put_pairs l at a b n in
      joined_suc (box_from a b c d) (box_four a b c d) l at n (pairs_boxes l at n)
      (ap (λ v. set (set v (at + 2 + 4 * n) (c n)) (at + 2 + 4 * n + 1) (d n))
      (pairs_set (set u q (a n)) (at + 2) c d n (q + 1) (b n) (omega arith)
      ∙ ap (λ v. set v (q + 1) (b n)) (pairs_set u (at + 2) c d n q (a n) (omega arith)))
      ∙ ap₂ (λ y z. set (set (set (set (put_pairs u (at + 2) c d n) q (a n)) (q + 1) (b n)) y (c n)) z (d n)) {y = q + 2} {v = q + 3}
      (omega arith) (omega arith)
      ∙ four_sets (put_pairs u (at + 2) c d n) q refl refl refl refl)

-- ---- from the terms to the curve
module _ (σ : Setting) (k : ℕ) (c : Curve) {f : ℕ → List ℤ} (box_is : (i : ℕ) → i ≤ σ.pieces → f i ≡ box_numbers (box_at σ k c i)) where
  pub boxes_are : (n : ℕ) → n ≤ break_points σ → joined_to n f ≡ boxes_to σ n k c
  boxes_are zero h = refl
  boxes_are (suc n) h = ap₂ ◌++◌ (boxes_are n (omega arith)) (box_is n (le_of_suc-le-suc h))

  -- at the end of the loop
  pub all_written : (l : List ℤ) (at : ℕ) {l' : List ℤ} {n : ℕ} → n ≡ break_points σ → l' ≡ sets l at (joined_to n f)
      → l' ≡ sets l at (boxes_to σ (break_points σ) k c)
  all_written l at e w =
      w ∙ ap (λ n. sets l at (joined_to n f)) e ∙ ap (sets l at) (boxes_are (break_points σ) (le_refl (break_points σ)))

module _ (σ : Setting) (has : HasRows σ.pieces) (k : ℕ) (c : Curve) (sized : Sized k c) {rows : List ℤ} (copied : Copied σ.pieces rows) where
  -- degrees 1 to 3
  module _ (few : c.degree ≤ 3) where
    takes : degree_pieces c.degree σ.pieces ≡ true
    takes = (degree_takes c.degree σ.pieces).1 (λ h. absurd (omega arith))

    pub box_is : {x y : Terms} → x ≡ terms_of σ.pieces c.degree c.x → y ≡ terms_of σ.pieces c.degree c.y
        → (i : ℕ) → i ≤ σ.pieces → box_by (σ.pieces * scale σ) (c.degree * k) rows x y i ≡ box_numbers (box_at σ k c i)
    unfolding box_from box_at
    box_is ex ey i hi = rw (ex, ey) (λ j.
        low_is σ has sized.most takes c.x hi k copied few j
        ∷ high_is σ has sized.most takes c.x hi k copied few j
        ∷ low_is σ has sized.most takes c.y hi k copied few j
        ∷ high_is σ has sized.most takes c.y hi k copied few j
        ∷ [])

  -- degrees 4 and 5
  module _ (many : 3 < c.degree) (units : σ.sixths ≡ false) (three : 3 ≤ σ.pieces) {x y : HigherTerms}
      (ex : x ≡ higher_of σ.pieces c.degree (c.degree * k) c.x) (ey : y ≡ higher_of σ.pieces c.degree (c.degree * k) c.y) where
    higher_takes : degree_pieces c.degree σ.pieces ≡ true
    higher_takes = (degree_takes c.degree σ.pieces).1 (λ h. three)

    pub higher_box_is : (i : ℕ) → i ≤ σ.pieces
        → box_from (higher_low σ.pieces (c.degree * k) rows x) (higher_high σ.pieces (c.degree * k) rows x)
        (higher_low σ.pieces (c.degree * k) rows y) (higher_high σ.pieces (c.degree * k) rows y) i
        ≡ box_numbers (box_at σ k c i)
    unfolding box_from box_at
    higher_box_is i hi = rw (ex, ey) (λ j.
        higher_low_is σ has sized.most higher_takes c.x hi k copied many units j
        ∷ higher_high_is σ has sized.most higher_takes c.x hi k copied many units j
        ∷ higher_low_is σ has sized.most higher_takes c.y hi k copied many units j
        ∷ higher_high_is σ has sized.most higher_takes c.y hi k copied many units j
        ∷ [])

    -- the pairs of both coordinates, one after the other
    pub both_written : (l : List ℤ) (at : ℕ) {u l' : List ℤ} → u ≡ put_pairs_by l at σ.pieces (c.degree * k) rows x (break_points σ)
        → l' ≡ put_pairs_by u (at + 2) σ.pieces (c.degree * k) rows y (break_points σ)
        → l' ≡ sets l at (boxes_to σ (break_points σ) k c)
    both_written l at e g = all_written σ k c higher_box_is l at refl
        (g ∙ ap (λ v. put_pairs_by v (at + 2) σ.pieces (c.degree * k) rows y (break_points σ)) e
        ∙ pairs_boxes (higher_low σ.pieces (c.degree * k) rows x) (higher_high σ.pieces (c.degree * k) rows x)
        (higher_low σ.pieces (c.degree * k) rows y) (higher_high σ.pieces (c.degree * k) rows y) l at (break_points σ))
