-- The width law: how far apart a high and its low can be, from a bound on the second differences.
use mathlib.Core.Path.{◌≡◌, refl, ◌∙◌, ap, subst}
use mathlib.Core.Bool.{Bool, true, cond, ◌&&◌}
use mathlib.Core.List.{List, [], ◌∷◌}
use Prim.Native.Nat.{ℕ, suc, ◌+◌, ◌*◌, ◌-◌, ◌^◌, ◌≤◌, ◌<◌, zero-le, suc-le-suc}
use native.Mathlib.Nat.{le_refl, le_trans, mul-le-mul, mul_assoc}
use native.Mathlib.Omega.{arith}
use lib.Dec.{T, lit≤}
use lib.ListN.{length}
use lib.IntN.{ℤ, pos, negsuc, neg_ℤ, nat_abs, ◌+ℤ◌, ◌-ℤ◌, ◌*ℤ◌}
use lib.Signed.{non_neg, lt_z, le_z, ◌≤ℤ◌, ◌<ℤ◌, lt_z_yes, le_z_yes}
use Rattle.setting.specs.Setting.{Setting, HasRows, scale, most_degree, degree_pieces, standard}
use Rattle.setting.proofs.Pieces.{degree_takes}
use Rattle.setting.proofs.Scales.{over_some}
use Rattle.integers.specs.Entry.{entry}
use Rattle.integers.specs.Rounding.{floor, ceiling}
use Rattle.integers.proofs.Ring.{ring, sides}
use Rattle.integers.proofs.Order.{times_positive, balance, NonNeg, natural, gap, gap<, nonneg_by, nonneg_cancel, le_of_gap, le_by, pos_le, pos_lt}
use Rattle.integers.proofs.Order.{*ℤ_cancel, ◌+₀◌, ◌×₀◌}
use Rattle.integers.proofs.Ranges.{no_lt}
use Rattle.integers.proofs.Rounding.{floor_is, ceiling_is}
use Rattle.integers.proofs.Table.{and_left, and_right, below}
use Rattle.curve_nodes.specs.Differences.{difference}
use Rattle.bound_rows.specs.Rows.{Row, pieces}
use Rattle.bound_rows.specs.Table.{rows_of}
use Rattle.bound_rows.specs.Rule.{gap_sum, gap_of}
use Rattle.bound_enclosure.specs.Bounds.{swapped, chord, row_sum, high, low}
use Rattle.bound_enclosure.specs.AtDepth.{high_of, low_of}
use Rattle.bound_rows.proofs.Gaps.{ordered, gaps_within}
use Rattle.bound_rows.proofs.Rule.{rows_count, rows_apart, pieces_have_rows, gap_thirds}

-- ---- the two sums of row × difference
-- one term: the rows' gap times the size of the difference
pub term_gap : (h l δ : ℤ) → cond (lt_z δ (pos 0)) l h *ℤ δ -ℤ cond (lt_z δ (pos 0)) h l *ℤ δ ≡ (h -ℤ l) *ℤ pos (nat_abs δ)
term_gap h l (pos n) =
    ap (λ (c : Bool). cond c l h *ℤ pos n -ℤ cond c h l *ℤ pos n) (no_lt {a = pos n} (pos_le zero-le))
    ∙ ring (h ∷ l ∷ pos n ∷ []) {a = h *ℤ pos n -ℤ l *ℤ pos n} (search sides depth 20) refl
term_gap h l (negsuc n) =
    ring (h ∷ l ∷ pos n ∷ []) {a = l *ℤ neg_ℤ (pos (suc n)) -ℤ h *ℤ neg_ℤ (pos (suc n))} {b = (h -ℤ l) *ℤ pos (suc n)} (search sides depth 20) refl

-- z times each difference is at most W in size
sums_apart : (z W i : ℕ) (cs : List ℤ) (ρs : List Row) (k : ℕ) → T (ordered ρs i)
    → ((j : ℕ) → k ≤ j → j < k + length ρs → z * nat_abs (difference cs j) ≤ W)
    → NonNeg (pos W *ℤ gap_sum ρs i -ℤ pos z *ℤ (row_sum ρs i k cs -ℤ row_sum (swapped ρs) i k cs))
unfolding row_sum
sums_apart z W i cs [] k t small = nonneg_by (pos z ∷ pos W ∷ []) (natural 0) (search sides depth 20) refl
sums_apart z W i cs (ρ ∷ ρs) k t small =
    let h = entry ρ.high i in
    let l = entry ρ.low i in
    let δ = difference cs k in
    let c = lt_z δ (pos 0) in
    let s = row_sum ρs i (suc k) cs in
    let t' = row_sum (swapped ρs) i (suc k) cs in
    nonneg_by (pos z ∷ pos W ∷ h ∷ l ∷ δ ∷ pos (nat_abs δ) ∷ cond c l h ∷ cond c h l ∷ gap_sum ρs i ∷ s ∷ t' ∷ [])
    (gap (pos_le (small k (omega arith) (omega arith))) ×₀ first +₀ balance (neg_ℤ (pos z)) (term_gap h l δ)
    +₀ sums_apart z W i cs ρs (suc k) (and_right (non_neg (h -ℤ l)) (ordered ρs i) t) (λ j m n. small j (omega arith) (omega arith)))
    (search sides depth 40 fits 9999) refl
  where
    first : NonNeg (entry ρ.high i -ℤ entry ρ.low i)
    first = record { holds = and_left (non_neg (entry ρ.high i -ℤ entry ρ.low i)) (ordered ρs i) t }

-- ---- the law, for rows at most G apart: z is 4^depth and M the largest second difference of the undivided curve. Rounding adds less than 2.
module _ (m G d : ℕ) (ρs : List Row) (some : 0 < m) (t : T (gaps_within m G ρs)) (D z M : ℕ) (hD : 0 < D) (cs : List ℤ)
    (small : (k : ℕ) → k < length ρs → z * nat_abs (difference cs k) ≤ D * M) where
  pub width_within : (i : ℕ) → i ≤ m
      → (pos 10000 *ℤ pos z *ℤ (high m ρs (pos D) d cs i -ℤ low m ρs (pos D) d cs i)) ≤ℤ (pos 16 *ℤ pos G *ℤ pos M +ℤ pos 20000 *ℤ pos z)
  unfolding high low
  width_within i hi =
      let Q = pos 10000 *ℤ pos m *ℤ pos D in
      let h_q : pos 0 <ℤ Q = times_positive (times_positive {x = pos 10000} (lt_z_yes tt) (pos_lt some)) (pos_lt hD) in
      let x = chord m d i cs in
      let S = row_sum ρs i 0 cs in
      let S' = row_sum (swapped ρs) i 0 cs in
      let N = pos 16 *ℤ (x +ℤ pos m *ℤ S) in
      let N' = pos 16 *ℤ (x +ℤ pos m *ℤ S') in
      let g = gap_sum ρs i in
      let passed = below (suc m) (λ j. ordered ρs j && le_z (gap_sum ρs j) (pos G)) t i (suc-le-suc hi) in
      le_of_gap (nonneg_cancel (pos_lt hD) (nonneg_cancel (pos_lt some)
      (nonneg_by (pos m ∷ pos D ∷ pos z ∷ pos M ∷ pos G ∷ x ∷ S ∷ S' ∷ g ∷ ceiling N Q ∷ floor N' Q ∷ [])
      (natural 16 ×₀ natural m ×₀ natural M ×₀ natural D ×₀ gap {a = g} {b = pos G} (le_z_yes (and_right (ordered ρs i) (le_z g (pos G)) passed))
      +₀ natural 16 ×₀ natural m ×₀ sums_apart z (D * M) i cs ρs 0 (and_left (ordered ρs i) (le_z g (pos G)) passed) (λ j l h. small j (omega arith))
      +₀ natural z ×₀ (gap< (ceiling_is N Q h_q).below +₀ gap< (floor_is N' Q h_q).above +₀ natural 2))
      (search sides depth 40 fits 9999) refl)))

-- ---- the rows of a setting: G is that of the degree and the number of pieces, and M counts in what the control values do
module _ (σ : Setting) (h : HasRows σ.pieces) (d depth z M : ℕ) (cs : List ℤ) (most : d ≤ most_degree)
    (takes : degree_pieces d σ.pieces ≡ true) (small : (k : ℕ) → k < d - 1 → z * nat_abs (difference cs k) ≤ 2 ^ (d * depth) * M) where
  pub width_gap : (i : ℕ) → i ≤ σ.pieces → (pos 10000 *ℤ pos (scale σ * z) *ℤ (high_of σ d depth cs i -ℤ low_of σ d depth cs i))
      ≤ℤ (pos 16 *ℤ pos (gap_of σ.pieces d) *ℤ pos M +ℤ pos 20000 *ℤ pos (scale σ * z))
  width_gap = width_within σ.pieces (gap_of σ.pieces d) d (rows_of σ.pieces d) h.least (rows_apart σ.pieces d h most takes)
      (scale σ * 2 ^ (d * depth)) (scale σ * z) M (over_some σ (d * depth)) cs
      (λ k l. rw (mul_assoc, mul_assoc) (mul-le-mul (le_refl (scale σ)) (small k (subst (λ n. k < n) (rows_count σ.pieces d) l))))

-- ---- three pieces, where G is 890 at most: at a depth and at any node
module _ (d depth M : ℕ) (cs : List ℤ) (least : 1 ≤ d) (most : d ≤ 3) where
  within : (z : ℕ) → ((k : ℕ) → k < d - 1 → z * nat_abs (difference cs k) ≤ 2 ^ (d * depth) * M) → (i : ℕ) → i ≤ pieces
      → (pos 125 *ℤ pos z *ℤ (high_of standard d depth cs i -ℤ low_of standard d depth cs i)) ≤ℤ (pos 178 *ℤ pos M +ℤ pos 250 *ℤ pos z)
  within z small i hi =
      let G = gap_of pieces d in
      *ℤ_cancel {k = pos 80} (lt_z_yes tt) (le_by (pos M ∷ pos z ∷ pos G ∷ high_of standard d depth cs i ∷ low_of standard d depth cs i ∷ [])
      (gap (width_gap standard pieces_have_rows d depth z M cs (le_trans most (lit≤ tt)) ((degree_takes d pieces).1 (λ l. lit≤ tt)) small i hi)
      +₀ natural 16 ×₀ natural M ×₀ gap (pos_le (gap_thirds d least most)))
      (search sides depth 20) refl)

  pub width : ((k : ℕ) → k < d - 1 → 4 ^ depth * nat_abs (difference cs k) ≤ 2 ^ (d * depth) * M)
      → (i : ℕ) → i ≤ pieces
      → (pos 125 *ℤ pos (4 ^ depth) *ℤ (high_of standard d depth cs i -ℤ low_of standard d depth cs i))
      ≤ℤ (pos 178 *ℤ pos M +ℤ pos 250 *ℤ pos (4 ^ depth))
  width = within (4 ^ depth)
