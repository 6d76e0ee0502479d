-- What the spreads of a node say of its widths: with gaps at least those of a break point, the width there is at most the spread and one more; with
-- gaps at most those, at least the spread. The sums of gap × difference are multiplied by f, and so is what divides them.
use mathlib.Core.Path.{◌≡◌, refl, ◌∙◌, ap, ap₂}
use mathlib.Core.Bool.{Bool, true, false, cond, ◌&&◌}
use mathlib.Core.Logic.{⊎_elim}
use mathlib.Core.List.{List, [], ◌∷◌}
use Prim.Native.Nat.{ℕ, suc, ◌+◌, ◌-◌, ◌*◌, ◌^◌, ◌≤◌, ◌<◌}
use native.Mathlib.Nat.{le_refl, le_trans, add-le-add, mul-le-mul}
use native.Mathlib.Omega.{arith}
use lib.Dec.{T, leb, leb→le, lit≤}
use lib.IntN.{ℤ, pos, negsuc, neg_ℤ, nat_abs, ◌+ℤ◌, ◌-ℤ◌, ◌*ℤ◌}
use lib.Signed.{non_neg, lt_z, ◌≤ℤ◌, ◌<ℤ◌, lt_z_yes}
use Rattle.setting.specs.Setting.{Setting, HasRows, scale, most_degree, degree_pieces}
use Rattle.setting.proofs.Scales.{over_some}
use Rattle.integers.specs.Entry.{entry}
use Rattle.integers.specs.Rounding.{floor, ceiling}
use Rattle.integers.specs.Squares.{squared}
use Rattle.integers.proofs.Ring.{ring, sides}
use Rattle.integers.proofs.Order.{natural, balance, gap, gap<, le_by, lt_by, clash_by, le_or_lt, pos_le, pos_lt, le_pos, ≤ℤ_trans, +ℤ_mono, *ℤ_cancel}
use Rattle.integers.proofs.Order.{times_positive, ◌+₀◌, ◌×₀◌}
use Rattle.integers.proofs.Squares.{square_mono}
use Rattle.integers.proofs.Size.{abs_within}
use Rattle.integers.proofs.Ranges.{lt_no}
use Rattle.integers.proofs.Rounding.{Floor, Ceiling, floor_is, ceiling_is, ceiling_le, ceiling_unique}
use Rattle.integers.proofs.Table.{and_left, and_right}
use Rattle.curve_nodes.specs.declared.Curve.{Curve}
use Rattle.curve_nodes.specs.Differences.{difference}
use Rattle.curve_nodes.specs.Bounds.{Sized}
use Rattle.curve_halves.specs.Sizes.{Each}
use Rattle.bound_rows.specs.Rows.{Row}
use Rattle.bound_rows.specs.Table.{rows_of}
use Rattle.bound_rows.proofs.Gaps.{ordered}
use Rattle.bound_rows.proofs.Rule.{rows_ordered}
use Rattle.bound_enclosure.specs.Bounds.{swapped, chord, row_sum, high, low}
use Rattle.bound_enclosure.specs.AtDepth.{high_of, low_of}
use Rattle.bound_enclosure.proofs.Width.{term_gap}
use Rattle.bound_enclosure.proofs.Reduced.{low_reduced, high_reduced}
use Rattle.bound_coordinate.specs.Inside.{Small}
use Rattle.bound_pieces.specs.Inside.{gaps_at, gaps_sum, up, times, spread_of}
use Rattle.bound_node.specs.Boxes.{meets}
use Rattle.bound_node.proofs.Sound.{low_high, width_under}
use Rattle.bound_node.proofs.Narrow.{narrow_meets}

-- ---- the two sums of row × difference
regroup : (a b x y : ℤ) → a +ℤ b -ℤ (x +ℤ y) ≡ (a -ℤ x) +ℤ (b -ℤ y)
regroup a b x y = ring (a ∷ b ∷ x ∷ y ∷ []) (search sides depth 20) refl

size_of : (z : ℤ) → T (non_neg z) → z ≡ pos (nat_abs z)
size_of (pos n) t = refl
size_of (negsuc n) t = absurd t

sums_differ : (i : ℕ) (cs : List ℤ) (ρs : List Row) (k : ℕ) → T (ordered ρs i)
    → row_sum ρs i k cs -ℤ row_sum (swapped ρs) i k cs ≡ pos (gaps_sum (gaps_at ρs i) k cs)
unfolding row_sum gaps_sum
sums_differ i cs [] k t = refl
sums_differ i cs (ρ ∷ ρs) k t =
    let h = entry ρ.high i in
    let l = entry ρ.low i in
    let δ = difference cs k in
    regroup (cond (lt_z δ (pos 0)) l h *ℤ δ) (row_sum ρs i (suc k) cs) (cond (lt_z δ (pos 0)) h l *ℤ δ) (row_sum (swapped ρs) i (suc k) cs)
    ∙ ap₂ ◌+ℤ◌ (term_gap h l δ ∙ ap (λ g. g *ℤ pos (nat_abs δ)) (size_of (h -ℤ l) (and_left (non_neg (h -ℤ l)) (ordered ρs i) t)))
    (sums_differ i cs ρs (suc k) (and_right (non_neg (h -ℤ l)) (ordered ρs i) t))

-- ---- one break point: the width is what is apart before rounding, in sixteenths rounded up, or one more
up_is : (n q : ℕ) → 0 < q → Ceiling (pos n) (pos q) (pos (up n q))
unfolding floor
up_is n q h =
    let f : Floor (pos (n + (q - 1))) (pos q) (pos (up n q)) = floor_is (pos (n + (q - 1))) (pos q) (pos_lt h) in
    let e : q ≡ q - 1 + 1 = omega (arith, h) in
    let ρ = pos n ∷ pos q ∷ pos (q - 1) ∷ pos (up n q) ∷ [] in
    record {
      below = lt_by ρ (gap f.below +₀ balance (pos 1) (ap pos e)) (search sides depth 20) refl;
      above = le_by ρ (gap< f.above +₀ balance (neg_ℤ (pos 1)) (ap pos e)) (search sides depth 20) refl;
    }

pub up_most : (n q K : ℕ) → 0 < q → n ≤ K * q → up n q ≤ K
up_most n q K h l = le_pos (rw (ceiling_unique (pos_lt h) (up_is n q h)) (ceiling_le (pos_lt h) (pos_le l)))

module _ {m : ℕ} (some : 0 < m) {D : ℕ} (hD : 0 < D) {f : ℕ} (hf : 0 < f) (ρs : List Row) (d : ℕ) (cs : List ℤ) (i : ℕ) (t : T (ordered ρs i)) where
  abbrev Q : ℤ
  Q = pos 625 *ℤ pos m *ℤ pos D

  abbrev above : ℤ
  above = chord m d i cs +ℤ pos m *ℤ row_sum ρs i 0 cs

  abbrev beneath : ℤ
  beneath = chord m d i cs +ℤ pos m *ℤ row_sum (swapped ρs) i 0 cs

  h_q : pos 0 <ℤ Q
  h_q = times_positive (times_positive {x = pos 625} (lt_z_yes tt) (pos_lt some)) (pos_lt hD)

  abbrev unit : ℕ
  unit = f * (625 * D)

  some_unit : 0 < unit
  some_unit = le_trans (omega (arith, hD)) (mul-le-mul hf (le_refl (625 * D)))

  abbrev atoms : List ℤ
  atoms =
      pos m ∷ pos D ∷ pos f ∷ chord m d i cs ∷ row_sum ρs i 0 cs ∷ row_sum (swapped ρs) i 0 cs ∷ pos (gaps_sum (gaps_at ρs i) 0 cs)
      ∷ ceiling above Q ∷ floor beneath Q ∷ []

  sum_least : (B : ℕ) → B ≤ f * gaps_sum (gaps_at ρs i) 0 cs → pos (up B unit) ≤ℤ (high m ρs (pos D) d cs i -ℤ low m ρs (pos D) d cs i)
  sum_least B h =
      let is-ceiling = ceiling_unique (pos_lt some_unit) (up_is B unit some_unit) in
      rw (high_reduced some (pos_lt hD) ρs d cs i, low_reduced some (pos_lt hD) ρs d cs i, is-ceiling)
      (ceiling_le (pos_lt some_unit) (*ℤ_cancel {k = pos m} (pos_lt some) (le_by (pos B ∷ atoms)
      (natural m ×₀ gap (pos_le h)
      +₀ natural f ×₀ (gap (ceiling_is above Q h_q).above +₀ gap (floor_is beneath Q h_q).below +₀ balance (pos m) (sums_differ i cs ρs 0 t)))
      (search sides depth 40 fits 9999) refl)))

  sum_most : (B : ℕ) → f * gaps_sum (gaps_at ρs i) 0 cs ≤ B → (high m ρs (pos D) d cs i -ℤ low m ρs (pos D) d cs i) ≤ℤ (pos (up B unit) +ℤ pos 1)
  sum_most B h = rw (high_reduced some (pos_lt hD) ρs d cs i, low_reduced some (pos_lt hD) ρs d cs i)
      (⊎_elim (λ l. l) (λ l. absurd (clash_by (pos B ∷ pos (up B unit) ∷ atoms)
      (natural m ×₀ gap (pos_le h) +₀ natural m ×₀ gap (up_is B unit some_unit).above
      +₀ natural f ×₀ (gap< (ceiling_is above Q h_q).below +₀ gap< (floor_is beneath Q h_q).above +₀ balance (neg_ℤ (pos m)) (sums_differ i cs ρs 0 t)
      +₀ (gap< h_q +₀ natural 1) ×₀ gap< l) +₀ natural 2 ×₀ gap (pos_le hf) +₀ natural 1) (search sides depth 40 fits 9999) refl))
      (le_or_lt (ceiling above Q -ℤ floor beneath Q) (pos (up B unit) +ℤ pos 1)))

-- ---- 6 over the scale
pub times_some : (b : Bool) → 0 < times b
times_some true = lit≤ tt
times_some false = lit≤ tt

pub times_most : (b : Bool) → times b ≤ 6
times_most true = lit≤ tt
times_most false = lit≤ tt

times_divisor : (b : Bool) (n : ℕ) → times b * (625 * (cond b 6 1 * n)) ≡ 3750 * n
times_divisor true n = omega arith
times_divisor false n = omega arith

-- ---- the break points of a setting's rows
-- each of the gaps is at most the other
abbrev pub under : List ℕ → List ℕ → Bool
under [] [] = true
under [] (h ∷ hs) = false
under (g ∷ gs) [] = false
under (g ∷ gs) (h ∷ hs) = leb g h && under gs hs

pub under_sum : (cs : List ℤ) (gs hs : List ℕ) (k : ℕ) → T (under gs hs) → gaps_sum gs k cs ≤ gaps_sum hs k cs
unfolding gaps_sum
under_sum cs [] [] k t = le_refl 0
under_sum cs [] (h ∷ hs) k t = absurd t
under_sum cs (g ∷ gs) [] k t = absurd t
under_sum cs (g ∷ gs) (h ∷ hs) k t =
    add-le-add (mul-le-mul (leb→le g h (and_left (leb g h) (under gs hs) t)) (le_refl (nat_abs (difference cs k))))
    (under_sum cs gs hs (suc k) (and_right (leb g h) (under gs hs) t))

-- the spread of a number that is at most or at least the sum of gap × difference at a break point, and the width there; then their squares
module _ (σ : Setting) (rows : HasRows σ.pieces) (d depth : ℕ) (cs : List ℤ) (least : 1 ≤ d) (most : d ≤ most_degree)
    (takes : degree_pieces d σ.pieces ≡ true) (B i : ℕ) (hi : i ≤ σ.pieces) where
  abbrev ρs : List Row
  ρs = rows_of σ.pieces d

  abbrev width : ℤ
  width = high_of σ d depth cs i -ℤ low_of σ d depth cs i

  abbrev f : ℕ
  f = times σ.sixths

  spread_is : up B (f * (625 * (scale σ * 2 ^ (d * depth)))) ≡ spread_of B (d * depth)
  unfolding spread_of
  spread_is = ap (up B) (times_divisor σ.sixths (2 ^ (d * depth)))

  spread_least : B ≤ f * gaps_sum (gaps_at ρs i) 0 cs → pos (spread_of B (d * depth)) ≤ℤ width
  spread_least h = rw (← spread_is)
      (sum_least rows.least (over_some σ (d * depth)) (times_some σ.sixths) ρs d cs i (rows_ordered σ.pieces d rows most takes i hi) B h)

  spread_most : f * gaps_sum (gaps_at ρs i) 0 cs ≤ B → width ≤ℤ (pos (spread_of B (d * depth)) +ℤ pos 1)
  spread_most h = rw (← spread_is)
      (sum_most rows.least (over_some σ (d * depth)) (times_some σ.sixths) ρs d cs i (rows_ordered σ.pieces d rows most takes i hi) B h)

  pub square_least : B ≤ times σ.sixths * gaps_sum (gaps_at (rows_of σ.pieces d) i) 0 cs
      → squared (pos (spread_of B (d * depth))) ≤ℤ squared (high_of σ d depth cs i -ℤ low_of σ d depth cs i)
  square_least h = square_mono (natural (spread_of B (d * depth))) (spread_least h)

  pub square_most : times σ.sixths * gaps_sum (gaps_at (rows_of σ.pieces d) i) 0 cs ≤ B
      → squared (high_of σ d depth cs i -ℤ low_of σ d depth cs i) ≤ℤ squared (pos (spread_of B (d * depth)) +ℤ pos 1)
  square_most h = square_mono (gap (low_high σ rows d depth cs least most takes i hi)) (spread_most h)

-- ---- no node is too wide for a tolerance beyond 2^27, below zero or above
module _ (σ : Setting) (rows : HasRows σ.pieces) (tolerance : ℤ) (depth : ℕ) (c : Curve) (s : Sized depth c)
    (takes : degree_pieces c.degree σ.pieces ≡ true) where
  beyond_meets : squared (pos (2 ^ 27)) ≤ℤ squared tolerance → meets σ tolerance depth c ≡ true
  beyond_meets h = narrow_meets σ tolerance depth c (record {
    each = λ i hi. ≤ℤ_trans (+ℤ_mono (small c.x s.x i hi) (small c.y s.y i hi))
        (≤ℤ_trans (pos_le (lit≤ {m = 2 ^ 52 + 2 ^ 52} {n = 2 ^ 54} tt)) h);
  })
    where
      small : (cs : List ℤ) → Each (2 ^ 20 * 2 ^ (c.degree * depth)) cs → (i : ℕ) → i ≤ σ.pieces
          → squared (high_of σ c.degree depth cs i -ℤ low_of σ c.degree depth cs i) ≤ℤ pos (2 ^ 52)
      small cs each i hi = square_mono (gap (low_high σ rows c.degree depth cs s.least s.most takes i hi))
          (width_under σ rows c.degree depth cs s.least s.most takes each i hi)

  pub below_meets : tolerance <ℤ neg_ℤ (pos (2 ^ 27)) → meets σ tolerance depth c ≡ true
  below_meets h = let g = gap< h +₀ natural 1 in beyond_meets (le_by (tolerance ∷ []) (natural (2 ^ 28) ×₀ g +₀ g ×₀ g) (search sides depth 40) refl)

  pub above_meets : pos (2 ^ 27) <ℤ tolerance → meets σ tolerance depth c ≡ true
  above_meets h = let g = gap< h +₀ natural 1 in beyond_meets (le_by (tolerance ∷ []) (natural (2 ^ 28) ×₀ g +₀ g ×₀ g) (search sides depth 40) refl)

-- between, its square does not wrap
pub tolerance_small : {t : ℤ} → lt_z t (neg_ℤ (pos (2 ^ 27))) ≡ false → lt_z (pos (2 ^ 27)) t ≡ false → Small (2 ^ 27) t
tolerance_small {t} least most = record { size = abs_within (2 ^ 27) t (lt_no least) (lt_no most) }
