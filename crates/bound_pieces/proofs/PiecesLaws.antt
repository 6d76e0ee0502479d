-- What the code of the pieces computes from the copied rows: the gaps at a break point, and the corner from those at the break points 0 and 1.
use mathlib.Core.Path.{◌≡◌, refl, sym, ◌∙◌, ap, ap₂, subst}
use mathlib.Core.Bool.{Bool, true, false, cond, ◌&&◌}
use mathlib.Core.List.{List, [], ◌∷◌}
use Prim.Native.Nat.{ℕ, zero, suc, ◌+◌, ◌-◌, ◌*◌, ◌/◌, ◌≤◌, ◌<◌, max}
use native.Mathlib.Nat.{le_refl, le_trans, mul-le-mul, div-eq_of_eq-mul_right, div-le_of_le-mul}
use native.Mathlib.Omega.{arith}
use lib.Dec.{T, eqb, ltb, leb, eqb→eq, leb→le}
use lib.IntN.{ℤ, pos, nat_abs, ◌-ℤ◌, ◌*ℤ◌}
use lib.Signed.{non_neg}
use borrow.Author.Tests.{lt-ltb, le-ltb}
use Rattle.setting.specs.Setting.{HasRows, scale, most_degree, degree_pieces}
use Rattle.setting.proofs.Scales.{scale_some, scale_most}
use Rattle.integers.specs.Entry.{entry}
use Rattle.integers.proofs.Ring.{ring, sides}
use Rattle.integers.proofs.Order.{NonNeg, natural, ◌×₀◌}
use Rattle.integers.proofs.Size.{Size, size_add, size_neg, abs_mul}
use Rattle.integers.proofs.Table.{and_left, and_right, every_below}
use Rattle.curve_halves.specs.Sizes.{Each}
use Rattle.curve_nodes.specs.Differences.{largest_of}
use Rattle.bound_rows.specs.Rows.{Row, row_at}
use Rattle.bound_rows.specs.Table.{table, rows_of}
use Rattle.bound_rows.specs.Rule.{gap_of}
use Rattle.bound_row_table.specs.Inside.{row_place, triple_at, Copied}
use Rattle.bound_rows.proofs.Gaps.{ordered}
use Rattle.bound_rows.proofs.Rule.{rows_ordered}
use Rattle.bound_pieces.specs.declared.Pieces.{Pieces}
use Rattle.bound_pieces.specs.declared.Gaps.{Gaps}
use Rattle.bound_pieces.specs.Inside.{gap_at, widest_at, near_gap, other_gap, gaps_of, pieces_by, pieces_of, setting_of}
use Rattle.bound_pieces.specs.Inside.{SmallGaps}
use Rattle.bound_pieces.proofs.Corners.{pieces_tested, many_tested, both_degrees}

-- ---- one gap
ordered_at : (ρs : List Row) (i k : ℕ) → T (ordered ρs i) → T (non_neg (entry (row_at ρs k).high i -ℤ entry (row_at ρs k).low i))
ordered_at [] i k t = tt
ordered_at (ρ ∷ ρs) i zero t = and_left (non_neg (entry ρ.high i -ℤ entry ρ.low i)) (ordered ρs i) t
ordered_at (ρ ∷ ρs) i (suc k) t = ordered_at ρs i k (and_right (non_neg (entry ρ.high i -ℤ entry ρ.low i)) (ordered ρs i) t)

-- the copied numbers at their largest, of eight pieces
pub rows_most : {m : ℕ} {rows : List ℤ} → HasRows m → Copied m rows → Each 72000 rows
rows_most h c = record { under = λ j. le_trans (c.each.under j) (mul-le-mul (le_refl 9000) h.most) }

module _ {m d k i start : ℕ} {rows : List ℤ} (h : HasRows m) (c : Copied m rows) (hk : k < d - 1) (most : d ≤ most_degree)
    (takes : degree_pieces d m ≡ true) (hi : i ≤ m) (e : start ≡ row_place d k) where
  abbrev ρ : Row
  ρ = row_at (rows_of m d) k

  abbrev gap : ℤ
  gap = entry rows (start + 3 * i) -ℤ entry rows (start + 3 * i + 1)

  read : (j p : ℕ) → j < 3 → p ≡ start + (3 * i + j) → entry rows p ≡ pos m *ℤ triple_at ρ i j
  read j p l f = ap (entry rows) (f ∙ ap (λ (q : ℕ). q + (3 * i + j)) e) ∙ c.row d k i j most takes hk hi l

  gap_of_law : gap ≡ pos m *ℤ (entry ρ.high i -ℤ entry ρ.low i)
  gap_of_law = ap₂ ◌-ℤ◌ (read 0 _ (omega arith) (omega arith)) (read 1 _ (omega arith) (omega arith))
      ∙ ring (pos m ∷ entry ρ.high i ∷ entry ρ.low i ∷ []) (search sides depth 20) refl

  pub gap_nonneg : NonNeg gap
  gap_nonneg =
      let g : NonNeg (entry ρ.high i -ℤ entry ρ.low i) = record { holds = ordered_at (rows_of m d) i k (rows_ordered m d h most takes i hi) } in
      subst NonNeg (sym gap_of_law) (natural m ×₀ g)

  pub gap_is : nat_abs gap / m ≡ gap_at m d k i
  gap_is = div-eq_of_eq-mul_right h.least (ap nat_abs gap_of_law ∙ abs_mul (pos m) (entry ρ.high i -ℤ entry ρ.low i))

  pub gap_under : nat_abs gap / m ≤ 18000
  gap_under =
      let a : Size (entry rows (start + 3 * i)) = record { bound = 9000 * m; under = c.each.under (start + 3 * i) } in
      let b : Size (entry rows (start + 3 * i + 1)) = record { bound = 9000 * m; under = c.each.under (start + 3 * i + 1) } in
      div-le_of_le-mul m (le_trans (size_add a (size_neg b)).under (omega arith))

-- ---- the corner: G stands at break point 0 or 1, and that of degree 2 at break point 1
abbrev sums_fine : ℕ → Bool
sums_fine m = eqb (max (gap_at m 3 0 0 + gap_at m 3 1 0) (gap_at m 3 0 1 + gap_at m 3 1 1)) (gap_of m 3) && eqb (gap_at m 2 0 1) (gap_of m 2)

sums_tested : T (every_below 8 (λ n. sums_fine (suc n)))
unfolding table rows_of gap_of largest_of
sums_tested = tt

-- a gap of degree 3, read at the break points 0 and 1, at one of them
gap_chosen : (m k : ℕ) (b : Bool) {i x₀ x₁ : ℕ} → cond b 1 0 ≡ i → x₀ ≡ gap_at m 3 k 0 → x₁ ≡ gap_at m 3 k 1 → cond b x₁ x₀ ≡ gap_at m 3 k i
gap_chosen m k true e e₀ e₁ = e₁ ∙ ap (gap_at m 3 k) e
gap_chosen m k false e e₀ e₁ = e₀ ∙ ap (gap_at m 3 k) e

module _ {m : ℕ} (h : HasRows m) where
  abbrev first : Bool
  first = eqb (max (gap_at m 3 0 0 + gap_at m 3 1 0) (gap_at m 3 0 1 + gap_at m 3 1 1)) (gap_of m 3)

  abbrev second : Bool
  second = eqb (gap_at m 2 0 1) (gap_of m 2)

  both_is : max (gap_at m 3 0 0 + gap_at m 3 1 0) (gap_at m 3 0 1 + gap_at m 3 1 1) ≡ gap_of m 3
  both_is = eqb→eq _ _ (and_left first second (pieces_tested sums_fine sums_tested m h))

  single_is : gap_at m 2 0 1 ≡ gap_of m 2
  single_is = eqb→eq _ _ (and_right first second (pieces_tested sums_fine sums_tested m h))

  module _ {s a₀ a₁ b₀ b₁ g : ℕ} (es : s ≡ gap_at m 2 0 1) (ea₀ : a₀ ≡ gap_at m 3 0 0) (ea₁ : a₁ ≡ gap_at m 3 0 1)
      (eb₀ : b₀ ≡ gap_at m 3 1 0) (eb₁ : b₁ ≡ gap_at m 3 1 1) (eg : g ≡ max (a₀ + b₀) (a₁ + b₁))
      {q r : Gaps} (eq : q ≡ gaps_of m 4) (er : r ≡ gaps_of m 5) (sixths : Bool) where
    largest : g ≡ gap_of m 3
    largest = eg ∙ (λ j. max (ea₀ j + eb₀ j) (ea₁ j + eb₁ j)) ∙ both_is

    widest : (b : Bool) → ltb a₀ a₁ ≡ b → widest_at m ≡ cond b 1 0
    widest b e = ap (λ (t : Bool). cond t 1 0) (ap₂ ltb (sym ea₀) (sym ea₁) ∙ e)

    -- the corner is at break point 1 where the first gap is wider there, and else at break point 0
    pub pieces_read : (b : Bool) → ltb a₀ a₁ ≡ b → pieces_by m sixths s (cond b a₁ a₀) (cond b b₁ b₀) g q r ≡ pieces_of m sixths
    unfolding pieces_of near_gap other_gap
    pieces_read b e =
        let w = sym (widest b e) in
        λ j. pieces_by m sixths ((es ∙ single_is) j) (gap_chosen m 0 b w ea₀ ea₁ j) (gap_chosen m 1 b w eb₀ eb₁ j) (largest j) (eq j) (er j)

-- ---- the gaps of degrees 4 and 5: G stands at break point 1, the others at break point 0; one and two pieces have none
abbrev no_gaps : Gaps
no_gaps = record { whole = 0; outer = 0; first = 0; second = 0 }

abbrev pub some_gaps : (m d : ℕ) → Gaps
some_gaps m d = record {
  whole = gap_of m d;
  outer = gap_at m d 0 0 + gap_at m d (d - 2) 0;
  first = gap_at m d 0 0;
  second = gap_at m d 1 0;
}

pub few_gaps : (m d : ℕ) → m < 3 → record { whole = 0; outer = 0; first = 0; second = 0 } ≡ gaps_of m d
unfolding gaps_of
few_gaps m d l = sym (ap (λ (b : Bool). cond b no_gaps (some_gaps m d)) (lt-ltb m 3 l))

pub many_gaps : (m d : ℕ) → 3 ≤ m → gaps_of m d ≡ some_gaps m d
unfolding gaps_of
many_gaps m d l = ap (λ (b : Bool). cond b no_gaps (some_gaps m d)) (le-ltb m 3 l)

abbrev three : (m d : ℕ) → ℕ
three m d = gap_at m d 0 1 + gap_at m d 1 1 + gap_at m d 2 1

abbrev quartic_fine : ℕ → Bool
quartic_fine m = eqb (three m 4) (gap_of m 4) && eqb (gap_at m 4 2 0) 0

abbrev quintic_fine : ℕ → Bool
quintic_fine m = eqb (three m 5 + gap_at m 5 3 1) (gap_of m 5)

higher_tested : T (every_below 6 (λ n. quartic_fine (suc (suc (suc n))) && quintic_fine (suc (suc (suc n)))))
unfolding table rows_of gap_of largest_of
higher_tested = tt

-- those that both degrees read: three at break point 1, two at break point 0
pub record FiveGaps (m d a b e f g : ℕ) : Type 0 where
  pub has : HasRows m
  pub many : 3 ≤ m
  pub first_there : a ≡ gap_at m d 0 1
  pub second_there : b ≡ gap_at m d 1 1
  pub third_there : e ≡ gap_at m d 2 1
  pub first : f ≡ gap_at m d 0 0
  pub second : g ≡ gap_at m d 1 0

module _ {m d a b e f g : ℕ} (h : FiveGaps m d a b e f g) where
  tested : T (quartic_fine m && quintic_fine m)
  tested = many_tested (λ m. quartic_fine m && quintic_fine m) higher_tested m h.has h.many

  quartic : T (quartic_fine m)
  quartic = and_left (quartic_fine m) (quintic_fine m) tested

  three_is : a + b + e ≡ three m d
  three_is = λ j. h.first_there j + h.second_there j + h.third_there j

  pub quartic_gaps : d ≡ 4 → record { whole = a + b + e; outer = f; first = f; second = g } ≡ gaps_of m d
  quartic_gaps q =
      let whole : a + b + e ≡ gap_of m d = three_is ∙ ap (three m) q
      ∙ eqb→eq _ _ (and_left (eqb (three m 4) (gap_of m 4)) (eqb (gap_at m 4 2 0) 0) quartic) ∙ ap (gap_of m) (sym q) in
      let none : gap_at m d (d - 2) 0 ≡ 0 = ap (λ d. gap_at m d (d - 2) 0) q
      ∙ eqb→eq _ _ (and_right (eqb (three m 4) (gap_of m 4)) (eqb (gap_at m 4 2 0) 0) quartic) in
      let outer : f ≡ gap_at m d 0 0 + gap_at m d (d - 2) 0 = omega (arith, h.first, none) in
      (λ j. record { whole = whole j; outer = outer j; first = h.first j; second = h.second j }) ∙ sym (many_gaps m d h.many)

  pub quintic_gaps : {x y : ℕ} → x ≡ gap_at m d 3 1 → y ≡ gap_at m d 3 0 → d ≡ 5
      → record { whole = a + b + e + x; outer = f + y; first = f; second = g } ≡ gaps_of m d
  quintic_gaps ex ey q =
      let whole : a + b + e + _ ≡ gap_of m d = ap₂ ◌+◌ three_is ex ∙ ap (λ d. three m d + gap_at m d 3 1) q
      ∙ eqb→eq _ _ (and_right (quartic_fine m) (quintic_fine m) tested) ∙ ap (gap_of m) (sym q) in
      let last : gap_at m d 3 0 ≡ gap_at m d (d - 2) 0 = ap (λ k. gap_at m d k 0) (omega (arith, q)) in
      (λ j. record { whole = whole j; outer = ap₂ ◌+◌ h.first (ey ∙ last) j; first = h.first j; second = h.second j })
      ∙ sym (many_gaps m d h.many)

-- none is more than 7500
abbrev small_fine : (m d : ℕ) → Bool
small_fine m d = leb (gap_of m d) 7500
    && (leb (gap_at m d 0 0 + gap_at m d (d - 2) 0) 7500 && (leb (gap_at m d 0 0) 7500 && leb (gap_at m d 1 0) 7500))

small_tested : T (every_below 6 (λ n. every_below 2 (λ e. small_fine (suc (suc (suc n))) (suc (suc (suc (suc e)))))))
unfolding table rows_of gap_of largest_of
small_tested = tt

pub small_gaps : (m d : ℕ) → HasRows m → 3 ≤ m → 3 < d → d ≤ most_degree → SmallGaps (gaps_of m d)
small_gaps m d h l hd hm = subst SmallGaps (sym (many_gaps m d l)) (record {
  whole = leb→le (gap_of m d) 7500 (and_left p (q && (r && s)) fine);
  outer = leb→le (gap_at m d 0 0 + gap_at m d (d - 2) 0) 7500 (and_left q (r && s) (and_right p (q && (r && s)) fine));
  first = leb→le (gap_at m d 0 0) 7500 (and_left r s (and_right q (r && s) (and_right p (q && (r && s)) fine)));
  second = leb→le (gap_at m d 1 0) 7500 (and_right r s (and_right q (r && s) (and_right p (q && (r && s)) fine)));
})
  where
    p : Bool
    p = leb (gap_of m d) 7500

    q : Bool
    q = leb (gap_at m d 0 0 + gap_at m d (d - 2) 0) 7500

    r : Bool
    r = leb (gap_at m d 0 0) 7500

    s : Bool
    s = leb (gap_at m d 1 0) 7500

    fine : T (small_fine m d)
    fine = both_degrees (small_fine m) (many_tested (λ m. every_below 2 (λ e. small_fine m (suc (suc (suc (suc e)))))) small_tested m h l) d hd hm

-- ---- 5040 is a multiple of every number of pieces, and of 6 times it
abbrev scale_fine : Bool → ℕ → Bool
scale_fine b m = eqb (5040 / (m * cond b 6 1) * (m * cond b 6 1)) 5040

scale_tested : (b : Bool) → T (every_below 8 (λ n. scale_fine b (suc n)))
scale_tested true = tt
scale_tested false = tt

module _ {p : Pieces} (h : HasRows p.m) (e : p ≡ pieces_of p.m p.sixths) where
  pub divisor_is : p.divisor ≡ p.m * scale (setting_of p)
  unfolding pieces_of pieces_by
  divisor_is = ap (λ (q : Pieces). q.divisor) e

  pub divisor_less : p.m ≤ p.divisor
  divisor_less = rw divisor_is (le_trans (omega arith) (mul-le-mul (le_refl p.m) (scale_some (setting_of p))))

  pub divisor_few : p.divisor ≤ 48
  divisor_few = rw divisor_is (mul-le-mul h.most (scale_most (setting_of p)))

  pub scaled : p.scale * p.divisor ≡ 5040
  unfolding pieces_of pieces_by
  scaled = ap (λ (q : Pieces). q.scale * q.divisor) e
      ∙ eqb→eq (5040 / (p.m * scale (setting_of p)) * (p.m * scale (setting_of p))) 5040 (pieces_tested (scale_fine p.sixths) (scale_tested p.sixths) p.m h)

  -- where control values are whole, the divisor is m
  pub divisor_alone : p.sixths ≡ false → p.divisor ≡ p.m
  divisor_alone units = divisor_is ∙ ap (λ (b : Bool). p.m * cond b 6 1) units ∙ omega arith

  pub scaled_alone : p.sixths ≡ false → p.scale * p.m ≡ 5040
  scaled_alone units = ap (λ (q : ℕ). p.scale * q) (sym (divisor_alone units)) ∙ scaled
