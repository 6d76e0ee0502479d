-- Rows that pass a computed test, joined by lines, bound their polynomials: on each piece the Bernstein coefficients of the polynomial less the
-- line are not negative, or those of its halves are not (`nonnegative`). The test is right for every degree and number of pieces.
use mathlib.Core.Path.{◌≡◌, refl, sym, ◌∙◌, ap, ap₂}
use mathlib.Core.Bool.{Bool, ◌&&◌}
use mathlib.Core.List.{List, [], ◌∷◌}
use Prim.Native.Nat.{ℕ, suc, ◌+◌, ◌-◌, ◌≤◌, ◌<◌, zero-le, suc-le-suc}
use native.Mathlib.Nat.{add_comm, lt_of_le_of_lt}
use native.Mathlib.Omega.{arith}
use lib.Dec.{T}
use lib.ListN.{length}
use lib.IntN.{ℤ, pos, neg_ℤ, ◌+ℤ◌, ◌-ℤ◌, ◌*ℤ◌, pow, one}
use lib.Signed.{◌≤ℤ◌}
use Rattle.integers.specs.Entry.{entry}
use Rattle.integers.proofs.Ring.{ring, sides}
use Rattle.integers.proofs.Order.{pow_positive, balance, NonNeg, natural, nonneg-≡, nonneg_cancel, gap, le_of_gap, le_by, *ℤ_cancel, pos_lt, ◌+₀◌}
use Rattle.integers.proofs.Table.{and_left, and_right, every_below, below, every, at}
use Rattle.curve_bernstein.specs.Value.{value}
use Rattle.curve_bernstein.proofs.Recursion.{casteljau_ext, casteljau_mix, value_is}
use Rattle.curve_bernstein.proofs.Stretch.{stretch, stretch_value}
use Rattle.curve_bernstein.proofs.Nonnegative.{nonnegative, nonnegative_right, value_times}
use Rattle.curve_halves.specs.Halves.{listed}
use Rattle.bound_rows.specs.Rows.{Row, row_at, pieces, thirds}
use Rattle.bound_rows.specs.Antidifferences.{antidifference}
use Rattle.bound_rows.specs.Joined.{Place, joined, RowBounds}
use Rattle.bound_rows.specs.Claim.{polynomial2_first, polynomial3_first, polynomial3_second}
use Rattle.bound_rows.proofs.Degrees.{degrees}
use Rattle.bound_rows.proofs.Negated.{negated, value_negated}
use Rattle.curve_halves.proofs.Values.{listed_entry}
use Rattle.bound_rows.proofs.Antidifferences.{antidifference_2_first, antidifference_3_first, antidifference_3_second}
use Rattle.bound_rows.proofs.Lines.{casteljau_line}

-- ---- the test of one row; h are d times the coefficients of its polynomial
-- the polynomial over piece i of m, times m^d
abbrev pub piece_of : (m d : ℕ) → List ℤ → ℕ → List ℤ
piece_of m d h i = stretch (pos i) (pos m -ℤ pos i) (pos (suc i)) (pos m -ℤ pos (suc i)) d h

-- 10000 times the polynomial less the row joined by lines
abbrev pub against : (m d : ℕ) → List ℤ → List ℤ → ℕ → List ℤ
against m d h row i =
    let piece = piece_of m d h i in
    listed (suc d) (λ j. pos 10000 *ℤ entry piece j +ℤ neg_ℤ (pow (pos m) d) *ℤ (pos d *ℤ entry row i +ℤ pos j *ℤ (entry row (suc i) -ℤ entry row i)))

-- how often the test may halve a piece: 7 times are needed, first for 2 pieces of degree 3
abbrev halvings : ℕ
halvings = 7

-- the low row is nowhere above the polynomial on piece i, and the high row nowhere below
abbrev pub passes : (m d : ℕ) → List ℤ → Row → ℕ → Bool
passes m d h ρ i = nonnegative d halvings (against m d h ρ.low i) && nonnegative d halvings (negated (against m d h ρ.high i))

-- all rows of degree d, on all pieces
abbrev pub tested : (m d : ℕ) → List Row → Bool
tested m d ρs = every (λ k ρ. every_below m (passes m d (antidifference d k) ρ)) 0 ρs

-- ---- what it shows, at a place on piece i; both sides are multiplied by d (p + r)^d
module _ (m d : ℕ) (hd : 0 < d) (h : List ℤ) {i a b p r : ℕ} (hi : i < m) (w : Place m i a b p r) where
  abbrev polynomial : ℤ
  polynomial = pos 10000 *ℤ value (pos p) (pos r) d h

  abbrev line : List ℤ → ℤ
  line row = pos d *ℤ pow (pos (p + r)) (d - 1) *ℤ joined (entry row) i a b

  -- the other end of the weights
  far : pos a *ℤ (pos m -ℤ pos i) +ℤ pos b *ℤ (pos m -ℤ pos (suc i)) ≡ pos m *ℤ pos r
  far =
      ring (pos m ∷ pos i ∷ pos a ∷ pos b ∷ []) {b = pos m *ℤ (pos a +ℤ pos b) -ℤ (pos a *ℤ pos i +ℤ pos b *ℤ pos (suc i))}
      (search sides depth 20) refl
      ∙ ap₂ (λ x y. pos m *ℤ x -ℤ y) (ap pos w.whole) (ap pos w.at)
      ∙ ring (pos m ∷ pos p ∷ pos r ∷ []) {a = pos m *ℤ (pos p +ℤ pos r) -ℤ pos m *ℤ pos p} (search sides depth 20) refl

  piece_value : value (pos b) (pos a) d (piece_of m d h i) ≡ pow (pos m) d *ℤ value (pos p) (pos r) d h
  piece_value =
      stretch_value (pos i) (pos m -ℤ pos i) (pos (suc i)) (pos m -ℤ pos (suc i)) (pos a) (pos b) d h
      ∙ ap₂ (λ x y. value x y d h) (ap pos w.at) far
      ∙ value_times (pos m) (pos p) (pos r) d h

  against_value : (row : List ℤ) → value (pos b) (pos a) d (against m d h row i) ≡ pow (pos m) d *ℤ (polynomial -ℤ line row)
  against_value row =
      let piece = piece_of m d h i in
      let M = pow (pos m) d in
      let v = value (pos p) (pos r) d h in
      let x = entry row i in
      let y = entry row (suc i) in
      let steps : ℕ → ℤ = λ j. pos d *ℤ x +ℤ pos j *ℤ (y -ℤ x) in
      let less : ℕ → ℤ = λ j. pos 10000 *ℤ entry piece j +ℤ neg_ℤ M *ℤ steps j in
      value_is (pos b) (pos a) d (against m d h row i)
      ∙ casteljau_ext (pos b) (pos a) d (entry (against m d h row i)) less (λ j l. listed_entry (suc d) less j (suc-le-suc l))
      ∙ casteljau_mix (pos b) (pos a) (pos 10000) (neg_ℤ M) d (entry piece) steps
      ∙ ap₂ (λ u s. pos 10000 *ℤ u +ℤ neg_ℤ M *ℤ s) (sym (value_is (pos b) (pos a) d piece) ∙ piece_value) (casteljau_line (pos b) (pos a) d hd x y)
      ∙ ap (λ (q : ℕ). pos 10000 *ℤ (M *ℤ v) +ℤ neg_ℤ M *ℤ (pos d *ℤ pow (pos q) (d - 1) *ℤ joined (entry row) i a b)) (add_comm b a ∙ w.whole)
      ∙ ring (M ∷ v ∷ line row ∷ []) (search sides depth 20) refl

  not_negative : (cs : List ℤ) {z : ℤ} → T (nonnegative d halvings cs) → value (pos b) (pos a) d cs ≡ pow (pos m) d *ℤ z → NonNeg z
  not_negative cs t e = nonneg_cancel (pow_positive (pos_lt (lt_of_le_of_lt zero-le hi)) d)
      (nonneg-≡ (nonnegative_right d halvings cs t (pos b) (pos a) (natural b) (natural a)) (sym e))

  module _ (ρ : Row) (t : T (passes m d h ρ i)) where
    low_passes : T (nonnegative d halvings (against m d h ρ.low i))
    low_passes = and_left (nonnegative d halvings (against m d h ρ.low i)) (nonnegative d halvings (negated (against m d h ρ.high i))) t

    high_passes : T (nonnegative d halvings (negated (against m d h ρ.high i)))
    high_passes = and_right (nonnegative d halvings (against m d h ρ.low i)) (nonnegative d halvings (negated (against m d h ρ.high i))) t

    pub low_line : line ρ.low ≤ℤ polynomial
    low_line = le_of_gap (not_negative (against m d h ρ.low i) low_passes (against_value ρ.low))

    pub high_line : polynomial ≤ℤ line ρ.high
    high_line =
        let M = pow (pos m) d in
        let x = line ρ.high in
        le_of_gap (not_negative (negated (against m d h ρ.high i)) high_passes (value_negated (pos b) (pos a) d (against m d h ρ.high i)
        ∙ ap neg_ℤ (against_value ρ.high) ∙ ring (M ∷ polynomial ∷ x ∷ []) (search sides depth 20) refl))

-- ---- the rule: rows that pass, joined by lines, bound their polynomials at every rational parameter
module _ (m d : ℕ) (ρs : List Row) (hd : 0 < d) (t : T (tested m d ρs)) {k : ℕ} (hk : k < length ρs)
    {i a b p r : ℕ} (hi : i < m) (w : Place m i a b p r) where
  row_passes : T (passes m d (antidifference d k) (row_at ρs k) i)
  row_passes = below m (passes m d (antidifference d k) (row_at ρs k))
      (at (λ j ρ. every_below m (passes m d (antidifference d j) ρ)) ρs (record { high = []; low = [] }) t k hk) i hi

  pub row_below : (pos d *ℤ pow (pos (p + r)) (d - 1) *ℤ joined (entry (row_at ρs k).low) i a b) ≤ℤ (pos 10000 *ℤ value (pos p) (pos r) d (antidifference d k))
  row_below = low_line m d hd (antidifference d k) hi w (row_at ρs k) row_passes

  pub row_above : (pos 10000 *ℤ value (pos p) (pos r) d (antidifference d k)) ≤ℤ (pos d *ℤ pow (pos (p + r)) (d - 1) *ℤ joined (entry (row_at ρs k).high) i a b)
  row_above = high_line m d hd (antidifference d k) hi w (row_at ρs k) row_passes

  -- in the words of P, where the polynomial's value is d times P
  pub row_bounds : {P : ℤ} → value (pos p) (pos r) d (antidifference d k) ≡ pos d *ℤ P → RowBounds (row_at ρs k) d P i a b p r
  row_bounds {P} is =
      let v = value (pos p) (pos r) d (antidifference d k) in
      let W = pow (pos (p + r)) (d - 1) in
      let l = joined (entry (row_at ρs k).low) i a b in
      let h = joined (entry (row_at ρs k).high) i a b in
      record {
        below = *ℤ_cancel (pos_lt hd)
            (le_by (pos d ∷ P ∷ v ∷ W ∷ l ∷ []) (gap row_below +₀ balance (neg_ℤ (pos 10000)) is) (search sides depth 20) refl);
        above = *ℤ_cancel (pos_lt hd)
            (le_by (pos d ∷ P ∷ v ∷ W ∷ h ∷ []) (gap row_above +₀ balance (pos 10000) is) (search sides depth 20) refl);
      }

-- ---- document 01's rows, tested once
pub thirds_tested : (d : ℕ) → 1 ≤ d → d ≤ 3 → T (tested pieces d (thirds d))
unfolding antidifference pow one
thirds_tested = degrees (λ d. T (tested pieces d (thirds d))) tt tt tt

-- ---- document 01's rows, in its words: u is p / (p + r)
module _ {i a b p r : ℕ} (hi : i < pieces) (w : Place pieces i a b p r) where
  -- −u(1−u)
  pub row_2_first : RowBounds (row_at (thirds 2) 0) 2 (polynomial2_first (pos p) (pos r)) i a b p r
  row_2_first = row_bounds pieces 2 (thirds 2)
      (omega arith) (thirds_tested 2 (omega arith) (omega arith)) (omega arith) hi w (antidifference_2_first (pos p) (pos r))

  -- −u(1−u)(2−u)
  pub row_3_first : RowBounds (row_at (thirds 3) 0) 3 (polynomial3_first (pos p) (pos r)) i a b p r
  row_3_first = row_bounds pieces 3 (thirds 3)
      (omega arith) (thirds_tested 3 (omega arith) (omega arith)) (omega arith) hi w (antidifference_3_first (pos p) (pos r))

  -- −u(1−u)(1+u)
  pub row_3_second : RowBounds (row_at (thirds 3) 1) 3 (polynomial3_second (pos p) (pos r)) i a b p r
  row_3_second = row_bounds pieces 3 (thirds 3)
      (omega arith) (thirds_tested 3 (omega arith) (omega arith)) (omega arith) hi w (antidifference_3_second (pos p) (pos r))
