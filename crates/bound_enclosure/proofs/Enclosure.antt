-- The enclosure theorem: at every rational parameter the lows and the highs, joined by straight lines, enclose the curve. One proof, for every
-- degree, number of pieces, rows that pass the test, and denominator; `enclosure` is it for the table of one to eight pieces.
use mathlib.Core.Path.{◌≡◌, refl, ap}
use mathlib.Core.Bool.{Bool, true, false, not, cond}
use mathlib.Core.List.{List, [], ◌∷◌}
use Prim.Native.Nat.{ℕ, suc, ◌+◌, ◌*◌, ◌-◌, ◌≤◌, ◌<◌, zero-le}
use native.Mathlib.Nat.{lt_of_le_of_lt}
use lib.Dec.{T}
use lib.ListN.{length}
use lib.IntN.{ℤ, pos, neg_ℤ, ◌+ℤ◌, ◌-ℤ◌, ◌*ℤ◌, pow}
use lib.Signed.{lt_z, ◌≤ℤ◌, ◌<ℤ◌, lt_z_yes, lt_z_no}
use Rattle.setting.specs.Setting.{HasRows, most_degree, degree_pieces}
use Rattle.integers.specs.Entry.{entry}
use Rattle.integers.specs.Rounding.{ceiling}
use Rattle.integers.proofs.Ring.{sides}
use Rattle.integers.proofs.Order.{pow_nonneg, times_positive, balance, NonNeg, natural, gap, gap<, nonneg_by, nonneg_cancel, le_of_gap, le_by, pos_lt}
use Rattle.integers.proofs.Order.{◌+₀◌, ◌×₀◌}
use Rattle.integers.proofs.Rounding.{ceiling_is}
use Rattle.integers.proofs.Table.{and_left, and_right, every_below, below, every}
use Rattle.curve_bernstein.specs.Value.{value}
use Rattle.curve_nodes.specs.Differences.{difference}
use Rattle.bound_rows.specs.Rows.{Row}
use Rattle.bound_rows.specs.Table.{rows_of}
use Rattle.bound_enclosure.specs.Bounds.{chord, row_sum, high, low}
use Rattle.bound_rows.specs.Antidifferences.{antidifference}
use Rattle.bound_rows.specs.Joined.{Place, joined}
use Rattle.bound_enclosure.specs.Enclosed.{Encloses}
use Rattle.bound_rows.proofs.Negated.{negated, value_negated}
use Rattle.bound_rows.proofs.Degrees.{all_degrees}
use Rattle.bound_enclosure.proofs.SecondDifferences.{hat_sum, Form, form_1, form_2, form_3, form_4, form_5}
use Rattle.bound_rows.proofs.Rows.{passes, tested, low_line, high_line}
use Rattle.bound_rows.proofs.Rule.{rows_count, rows_tested}
use Rattle.bound_enclosure.proofs.Negation.{low_is}
use Rattle.bound_rows.proofs.Places.{Located, located, place_at}

-- ---- the sum of row × difference against that of polynomial × difference
module _ (m d : ℕ) (hd : 0 < d) {i a b p r : ℕ} (hi : i < m) (w : Place m i a b p r) where
  abbrev weight : ℤ
  weight = pos d *ℤ pow (pos (p + r)) (d - 1)

  -- one term: the row by the sign of the difference
  term : (h : List ℤ) (ρ : Row) → T (passes m d h ρ i) → (δ : ℤ) (c : Bool) → (T c → δ <ℤ pos 0) → (T (not c) → pos 0 ≤ℤ δ)
      → NonNeg (weight *ℤ joined (λ j. cond c (entry ρ.low j) (entry ρ.high j) *ℤ δ) i a b -ℤ pos 10000 *ℤ (value (pos p) (pos r) d h *ℤ δ))
  term h ρ t δ true f g =
      let v = value (pos p) (pos r) d h in
      let l = low_line m d hd h hi w ρ t in
      nonneg_by (pos d ∷ pow (pos (p + r)) (d - 1) ∷ pos a ∷ pos b ∷ entry ρ.low i ∷ entry ρ.low (suc i) ∷ v ∷ δ ∷ [])
      (gap l ×₀ gap< (f tt) +₀ gap l) (search sides depth 40 fits 9999) refl
  term h ρ t δ false f g =
      let v = value (pos p) (pos r) d h in
      nonneg_by (pos d ∷ pow (pos (p + r)) (d - 1) ∷ pos a ∷ pos b ∷ entry ρ.high i ∷ entry ρ.high (suc i) ∷ v ∷ δ ∷ [])
      (gap (high_line m d hd h hi w ρ t) ×₀ gap (g tt)) (search sides depth 40 fits 9999) refl

  sums : (ρs : List Row) (k : ℕ) (cs : List ℤ) → T (every (λ k ρ. every_below m (passes m d (antidifference d k) ρ)) k ρs)
      → NonNeg (weight *ℤ joined (λ j. row_sum ρs j k cs) i a b -ℤ pos 10000 *ℤ hat_sum (pos p) (pos r) d (length ρs) k cs)
  unfolding row_sum hat_sum
  sums [] k cs t = nonneg_by (pos d ∷ pow (pos (p + r)) (d - 1) ∷ pos a ∷ pos b ∷ []) (natural 0) (search sides depth 40 fits 9999) refl
  sums (ρ ∷ ρs) k cs t =
      let δ = difference cs k in
      let first = every_below m (passes m d (antidifference d k) ρ) in
      let rest = every (λ k ρ. every_below m (passes m d (antidifference d k) ρ)) (suc k) ρs in
      let x : ℕ → ℤ = λ j. cond (lt_z δ (pos 0)) (entry ρ.low j) (entry ρ.high j) in
      nonneg_by (pos d ∷ pow (pos (p + r)) (d - 1) ∷ pos a ∷ pos b ∷ δ ∷ x i ∷ x (suc i) ∷ row_sum ρs i (suc k) cs ∷ row_sum ρs (suc i) (suc k) cs
      ∷ value (pos p) (pos r) d (antidifference d k) ∷ hat_sum (pos p) (pos r) d (length ρs) (suc k) cs ∷ [])
      (term (antidifference d k) ρ (below m (passes m d (antidifference d k) ρ) (and_left first rest t) i hi) δ (lt_z δ (pos 0)) lt_z_yes lt_z_no
      +₀ sums ρs (suc k) cs (and_right first rest t))
      (search sides depth 40 fits 9999) refl

-- ---- the enclosure
-- What m pieces of a degree d with rows ρs need: a row for each second difference, rows that pass, and the second-difference form.
pub record Enclosable (m d : ℕ) (ρs : List Row) : Type 0 where
  pub positive : 0 < d
  pub count : length ρs ≡ d - 1
  pub pass : T (tested m d ρs)
  pub form : Form d

module _ {m d : ℕ} {ρs : List Row} (known : Enclosable m d ρs) {D : ℤ} (hD : pos 0 <ℤ D) {i a b p r : ℕ} (hi : i < m) (w : Place m i a b p r) where
  some : pos 0 <ℤ pos m
  some = pos_lt (lt_of_le_of_lt zero-le hi)

  under_high : (cs : List ℤ) → (pos 16 *ℤ value (pos p) (pos r) d cs) ≤ℤ (D *ℤ pow (pos (p + r)) (d - 1) *ℤ joined (high m ρs D d cs) i a b)
  unfolding high
  under_high cs =
      let Q = pos 10000 *ℤ pos m *ℤ D in
      let h_q : pos 0 <ℤ Q = times_positive (times_positive {x = pos 10000} (lt_z_yes tt) some) hD in
      let v = value (pos p) (pos r) d cs in
      let W = pow (pos (p + r)) (d - 1) in
      let n : ℕ → ℤ = λ j. pos 16 *ℤ (chord m d j cs +ℤ pos m *ℤ row_sum ρs j 0 cs) in
      let c0 = entry cs 0 in
      let cd = entry cs d in
      let H = hat_sum (pos p) (pos r) d (d - 1) 0 cs in
      le_of_gap (nonneg_cancel some (nonneg_cancel (pos_lt known.positive) (nonneg_cancel {k = pos 10000} (lt_z_yes tt)
      (nonneg_by (pos d ∷ pos m ∷ D ∷ W ∷ pos i ∷ pos a ∷ pos b ∷ pos p ∷ pos r ∷ v ∷ H ∷ c0 ∷ cd ∷ row_sum ρs i 0 cs ∷ row_sum ρs (suc i) 0 cs
      ∷ ceiling (n i) Q ∷ ceiling (n (suc i)) Q ∷ [])
      (natural d ×₀ pow_nonneg (p + r) (d - 1) ×₀ (natural a ×₀ gap (ceiling_is (n i) Q h_q).above
      +₀ natural b ×₀ gap (ceiling_is (n (suc i)) Q h_q).above)
      +₀ natural 16 ×₀ natural m ×₀ rw known.count at (sums m d known.positive hi w ρs 0 cs known.pass)
      +₀ balance (neg_ℤ (pos 160000) *ℤ pos m) (known.form (pos p) (pos r) cs)
      +₀ balance (pos 160000 *ℤ pos d *ℤ W *ℤ pos m *ℤ c0) (ap pos w.whole)
      +₀ balance (pos 160000 *ℤ pos d *ℤ W *ℤ (cd -ℤ c0)) (ap pos w.at))
      (search sides depth 40 fits 9999) refl))))

  over_low : (cs : List ℤ) → (D *ℤ pow (pos (p + r)) (d - 1) *ℤ joined (low m ρs D d cs) i a b) ≤ℤ (pos 16 *ℤ value (pos p) (pos r) d cs)
  over_low cs =
      let W = pow (pos (p + r)) (d - 1) in
      let l = low m ρs D d cs in
      let h = high m ρs D d (negated cs) in
      le_by (D ∷ W ∷ pos a ∷ pos b ∷ value (pos p) (pos r) d cs ∷ value (pos p) (pos r) d (negated cs) ∷ l i ∷ l (suc i) ∷ h i ∷ h (suc i) ∷ [])
      (gap (under_high (negated cs)) +₀ balance (pos 16) (value_negated (pos p) (pos r) d cs)
      +₀ balance (neg_ℤ (D *ℤ W *ℤ pos a)) (low_is m ρs D d cs i) +₀ balance (neg_ℤ (D *ℤ W *ℤ pos b)) (low_is m ρs D d cs (suc i)))
      (search sides depth 40 fits 9999) refl

  pub encloses : (cs : List ℤ) → Encloses m ρs D d cs i a b p r
  encloses cs = record { below = over_low cs; above = under_high cs }

-- ---- the table's rows
module _ (m d : ℕ) (rows : HasRows m) (least : 1 ≤ d) (most : d ≤ most_degree) (takes : degree_pieces d m ≡ true) where
  pub enclosable : Enclosable m d (rows_of m d)
  enclosable = record {
    positive = least;
    count = rows_count m d;
    pass = rows_tested m d rows most takes;
    form = all_degrees Form form_1 form_2 form_3 form_4 form_5 d least most;
  }

  module _ (D : ℤ) (hD : pos 0 <ℤ D) (cs : List ℤ) where
    pub enclosure : (i a b p r : ℕ) → i < m → Place m i a b p r → Encloses m (rows_of m d) D d cs i a b p r
    enclosure i a b p r hi w = encloses enclosable hD hi w cs

    -- every rational parameter has a place
    pub enclosure_at : (p r : ℕ) → (l : Located m p r) × Encloses m (rows_of m d) D d cs l.piece l.near l.far p r
    enclosure_at p r = let l = located m p r rows.least in (l, enclosure l.piece l.near l.far p r l.inside l.place)

    -- every two weights on a piece have a parameter
    pub enclosure_between : (i a b : ℕ) → i < m
        → Encloses m (rows_of m d) D d cs i (m * a) (m * b) (a * i + b * suc i) (a * (m - i) + b * (m - suc i))
    enclosure_between i a b hi = enclosure i (m * a) (m * b) (a * i + b * suc i) (a * (m - i) + b * (m - suc i)) hi (place_at m i a b hi)
