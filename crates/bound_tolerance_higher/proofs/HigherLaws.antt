-- What the gaps tell of a node of degree 4 or 5: no break point has more than `most_of`, and the two ends have at least `end_of`.
use mathlib.Core.Path.{◌≡◌, sym, ap, subst}
use mathlib.Core.Bool.{Bool, false, ◌&&◌}
use mathlib.Core.Logic.{⊎_elim}
use mathlib.Core.List.{List, [], ◌∷◌}
use Prim.Native.Nat.{ℕ, zero, suc, ◌+◌, ◌-◌, ◌*◌, ◌^◌, ◌≤◌, ◌<◌, max, zero-le, suc-le-suc}
use native.Mathlib.Nat.{le_refl, le_trans, mul-le-mul, add-mul, mul-add, le-max_left, le-max_right, max-le, sub-le}
use lib.Pow.{pow_mono}
use native.Mathlib.Omega.{arith}
use lib.Dec.{T, leb, leb→le}
use lib.ListN.{get_or}
use lib.IntN.{ℤ, nat_abs}
use Rattle.setting.specs.Setting.{HasRows, most_degree}
use Rattle.integers.proofs.Order.{lt_or_ge}
use Rattle.integers.proofs.Table.{and_left, and_right, every_below, below}
use Rattle.curve_halves.specs.Sizes.{Each}
use Rattle.curve_nodes.specs.Differences.{difference, largest_of}
use Rattle.curve_nodes.proofs.Sizes.{difference_under}
use Rattle.bound_rows.specs.Table.{table, rows_of}
use Rattle.bound_rows.specs.Rule.{gap_of}
use Rattle.bound_pieces.specs.declared.Gaps.{Gaps}
use Rattle.bound_pieces.specs.Inside.{gap_at, gaps_at, gaps_sum, times, gaps_of}
use Rattle.bound_pieces.specs.Inside.{SmallGaps}
use Rattle.bound_tolerance_higher.specs.Spreads.{sizes_of, most_of, end_of, SmallSizes, Spread, SpreadAt}
use Rattle.bound_pieces.proofs.Corners.{many_tested, both_degrees}
use Rattle.bound_pieces.proofs.PiecesLaws.{many_gaps, small_gaps}

-- ---- at a break point: what the outer gaps add up to, and all
abbrev outer_at : (m d i : ℕ) → ℕ
outer_at m d i = gap_at m d 0 i + gap_at m d (d - 2) i

-- the inner ones: one at degree 4, two at degree 5
abbrev inner_at : (m d i : ℕ) → ℕ
inner_at m zero i = 0
inner_at m (suc zero) i = 0
inner_at m (suc (suc zero)) i = 0
inner_at m (suc (suc (suc zero))) i = 0
inner_at m (suc (suc (suc (suc zero)))) i = gap_at m 4 1 i
inner_at m (suc (suc (suc (suc (suc d))))) i = gap_at m 5 1 i + gap_at m 5 2 i

abbrev point_fine : (m d i : ℕ) → Bool
point_fine m d i = leb (outer_at m d i) (outer_at m d 0) && leb (outer_at m d i + inner_at m d i) (gap_of m d)

abbrev end_fine : (m d : ℕ) → Bool
end_fine m d = leb (gap_at m d 0 0) (gap_at m d (d - 2) m) && leb (gap_at m d 1 0) (gap_at m d (d - 3) m)

abbrev higher_fine : (m d : ℕ) → Bool
higher_fine m d = every_below (suc m) (point_fine m d) && end_fine m d

higher_tested : T (every_below 6 (λ n. every_below 2 (λ e. higher_fine (suc (suc (suc n))) (suc (suc (suc (suc e)))))))
unfolding table rows_of gap_of largest_of
higher_tested = tt

-- ---- outer gaps P at sizes o, inner ones Q at sizes n
spread_most : (P Q W O o n : ℕ) → P ≤ O → P + Q ≤ W → P * o + Q * n ≤ W * n + O * (o - n)
spread_most P Q W O o n outer all = ⊎_elim
    (λ l. let k : o ≤ n = omega arith in omega (arith, mul-le-mul (le_refl P) k, add-mul P Q n, mul-le-mul all (le_refl n)))
    (λ l. let e : o ≡ n + (o - n) = omega arith in
    omega (arith, ap (λ k. P * k) e, mul-add P n (o - n), add-mul P Q n, mul-le-mul all (le_refl n), mul-le-mul outer (le_refl (o - n))))
    (lt_or_ge o n)

-- what holds of degrees 4 and 5 holds of every degree that has three or four second differences
four_or_five : (P : ℕ → Type 0) → P 4 → P 5 → (d : ℕ) → 3 < d → d ≤ most_degree → P d
four_or_five P four five zero a b = absurd (omega arith)
four_or_five P four five (suc zero) a b = absurd (omega arith)
four_or_five P four five (suc (suc zero)) a b = absurd (omega arith)
four_or_five P four five (suc (suc (suc zero))) a b = absurd (omega arith)
four_or_five P four five (suc (suc (suc (suc zero)))) a b = four
four_or_five P four five (suc (suc (suc (suc (suc zero))))) a b = five
four_or_five P four five (suc (suc (suc (suc (suc (suc d)))))) a b = absurd (omega arith)

module _ (m : ℕ) (h : HasRows m) (l : 3 ≤ m) (cs : List ℤ) where
  abbrev size : ℕ → ℕ
  size k = nat_abs (difference cs k)

  fine : (d : ℕ) → 3 < d → d ≤ most_degree → T (higher_fine m d)
  fine d a b = both_degrees (higher_fine m)
      (many_tested (λ m. every_below 2 (λ e. higher_fine m (suc (suc (suc (suc e)))))) higher_tested m h l) d a b

  module _ (d : ℕ) (a : 3 < d) (b : d ≤ most_degree) (i : ℕ) (hi : i ≤ m) where
    point : T (point_fine m d i)
    point = below (suc m) (point_fine m d) (and_left (every_below (suc m) (point_fine m d)) (end_fine m d) (fine d a b)) i (suc-le-suc hi)

    outer_under : outer_at m d i ≤ outer_at m d 0
    outer_under = leb→le (outer_at m d i) (outer_at m d 0)
        (and_left (leb (outer_at m d i) (outer_at m d 0)) (leb (outer_at m d i + inner_at m d i) (gap_of m d)) point)

    all_under : outer_at m d i + inner_at m d i ≤ gap_of m d
    all_under = leb→le (outer_at m d i + inner_at m d i) (gap_of m d)
        (and_right (leb (outer_at m d i) (outer_at m d 0)) (leb (outer_at m d i + inner_at m d i) (gap_of m d)) point)

  -- the sum of gap × difference, outer and inner ones apart, with the larger sizes
  abbrev outer_size : ℕ → ℕ
  outer_size d = max (size 0) (size (d - 2))

  abbrev inner_size : ℕ → ℕ
  inner_size d = max (size 1) (size (d - 3))

  parted : (d : ℕ) → 3 < d → d ≤ most_degree → (i : ℕ)
      → gaps_sum (gaps_at (rows_of m d) i) 0 cs ≤ outer_at m d i * outer_size d + inner_at m d i * inner_size d
  unfolding gaps_sum rows_of
  parted = four_or_five
      (λ d. (i : ℕ) → gaps_sum (gaps_at (rows_of m d) i) 0 cs ≤ outer_at m d i * outer_size d + inner_at m d i * inner_size d)
      (λ i. omega (
        arith,
        mul-le-mul (le_refl (gap_at m 4 0 i)) (le-max_left (size 0) (size 2)),
        mul-le-mul (le_refl (gap_at m 4 1 i)) (le-max_left (size 1) (size 1)),
        mul-le-mul (le_refl (gap_at m 4 2 i)) (le-max_right (size 0) (size 2)),
        add-mul (gap_at m 4 0 i) (gap_at m 4 2 i) (max (size 0) (size 2)),
      ))
      (λ i. omega (
        arith,
        mul-le-mul (le_refl (gap_at m 5 0 i)) (le-max_left (size 0) (size 3)),
        mul-le-mul (le_refl (gap_at m 5 1 i)) (le-max_left (size 1) (size 2)),
        mul-le-mul (le_refl (gap_at m 5 2 i)) (le-max_right (size 1) (size 2)),
        mul-le-mul (le_refl (gap_at m 5 3 i)) (le-max_right (size 0) (size 3)),
        add-mul (gap_at m 5 0 i) (gap_at m 5 3 i) (max (size 0) (size 3)),
        add-mul (gap_at m 5 1 i) (gap_at m 5 2 i) (max (size 1) (size 2)),
      ))

  -- two of the terms at the first break point, and at the last
  first_least : (d : ℕ) → 3 < d → d ≤ most_degree → gap_at m d 0 0 * size 0 + gap_at m d 1 0 * size 1 ≤ gaps_sum (gaps_at (rows_of m d) 0) 0 cs
  unfolding gaps_sum rows_of
  first_least = four_or_five (λ d. gap_at m d 0 0 * size 0 + gap_at m d 1 0 * size 1 ≤ gaps_sum (gaps_at (rows_of m d) 0) 0 cs) (omega arith) (omega arith)

  last_least : (d : ℕ) → 3 < d → d ≤ most_degree
      → gap_at m d (d - 2) m * size (d - 2) + gap_at m d (d - 3) m * size (d - 3) ≤ gaps_sum (gaps_at (rows_of m d) m) 0 cs
  unfolding gaps_sum rows_of
  last_least = four_or_five (λ d. gap_at m d (d - 2) m * size (d - 2) + gap_at m d (d - 3) m * size (d - 3) ≤ gaps_sum (gaps_at (rows_of m d) m) 0 cs)
      (omega arith) (omega arith)

  module _ {d : ℕ} (a : 3 < d) (b : d ≤ most_degree) {g : Gaps} (e : g ≡ gaps_of m d) {ns : List ℕ} (en : ns ≡ sizes_of d cs) where
    -- no break point has more
    pub most_covers : (i : ℕ) → i ≤ m → gaps_sum (gaps_at (rows_of m d) i) 0 cs ≤ most_of g ns
    unfolding most_of
    most_covers i hi = rw (en, e, many_gaps m d l) (le_trans (parted d a b i)
        (spread_most (outer_at m d i) (inner_at m d i) (gap_of m d) (outer_at m d 0) (outer_size d) (inner_size d)
        (outer_under d a b i hi) (all_under d a b i hi)))

    -- sums that are multiplied as those of whole control values are
    pub most_covers_times : {b : Bool} → b ≡ false → (i : ℕ) → i ≤ m → times b * gaps_sum (gaps_at (rows_of m d) i) 0 cs ≤ 6 * most_of g ns
    most_covers_times units i hi = rw units (mul-le-mul (le_refl 6) (most_covers i hi))

    -- the first break point has at least this, and the last one from its own end
    pub first_reaches : end_of g (get_or ns 0 0 ∷ get_or ns 1 0 ∷ []) ≤ gaps_sum (gaps_at (rows_of m d) 0) 0 cs
    first_reaches = rw (en, e, many_gaps m d l) (first_least d a b)

    pub last_reaches : end_of g (get_or ns 3 0 ∷ get_or ns 2 0 ∷ []) ≤ gaps_sum (gaps_at (rows_of m d) m) 0 cs
    last_reaches = rw (en, e, many_gaps m d l) (le_trans both (last_least d a b))
      where
        ends : T (end_fine m d)
        ends = and_right (every_below (suc m) (point_fine m d)) (end_fine m d) (fine d a b)

        p : Bool
        p = leb (gap_at m d 0 0) (gap_at m d (d - 2) m)

        q : Bool
        q = leb (gap_at m d 1 0) (gap_at m d (d - 3) m)

        both : gap_at m d 0 0 * size (d - 2) + gap_at m d 1 0 * size (d - 3) ≤ gap_at m d (d - 2) m * size (d - 2) + gap_at m d (d - 3) m * size (d - 3)
        both = omega (
          arith,
          mul-le-mul (leb→le (gap_at m d 0 0) (gap_at m d (d - 2) m) (and_left p q ends)) (le_refl (size (d - 2))),
          mul-le-mul (leb→le (gap_at m d 1 0) (gap_at m d (d - 3) m) (and_right p q ends)) (le_refl (size (d - 3))),
        )

pub times_reaches : {b : Bool} {w n : ℕ} → b ≡ false → w ≤ n → 6 * w ≤ times b * n
times_reaches units h = rw units (mul-le-mul (le_refl 6) h)

-- ---- how large all of that is
each_under : {B : ℕ} {cs : List ℤ} → Each B cs → (d p : ℕ) → get_or (sizes_of d cs) p 0 ≤ 4 * B
each_under each d zero = difference_under each 0
each_under each d (suc zero) = difference_under each 1
each_under each d (suc (suc zero)) = difference_under each (d - 3)
each_under each d (suc (suc (suc zero))) = difference_under each (d - 2)
each_under each d (suc (suc (suc (suc p)))) = zero-le

module _ (m d s : ℕ) (h : HasRows m) (l : 3 ≤ m) (a : 3 < d) (b : d ≤ most_degree) {cs : List ℤ} (each : Each (2 ^ 20 * 2 ^ s) cs) (shallow : s ≤ 24)
    {g : Gaps} (e : g ≡ gaps_of m d) {ns : List ℕ} (en : ns ≡ sizes_of d cs) where
  small : SmallGaps g
  small = subst SmallGaps (sym e) (small_gaps m d h l a b)

  under : (p : ℕ) → get_or ns p 0 ≤ 4 * (2 ^ 20 * 2 ^ s)
  under p = rw en (each_under each d p)

  sizes : SmallSizes ns
  sizes = record { under = λ p. le_trans (under p) (mul-le-mul (le_refl 4) (mul-le-mul (le_refl (2 ^ 20)) (pow_mono {j = 24} shallow))) }

  pub spread : Spread g s ns
  unfolding most_of
  spread = record {
    gaps = small;
    sizes = sizes;
    most = omega (
      arith,
      mul-le-mul small.whole (max-le (under 1) (under 2)),
      mul-le-mul small.outer (le_trans (sub-le (max (get_or ns 0 0) (get_or ns 3 0)) (max (get_or ns 1 0) (get_or ns 2 0))) (max-le (under 0) (under 3))),
    );
    shallow = shallow;
  }

  pub spread_at : (p q : ℕ) {a₀ a₁ : ℕ} → a₀ ≡ get_or ns p 0 → a₁ ≡ get_or ns q 0 → SpreadAt g s (a₀ ∷ a₁ ∷ [])
  spread_at p q {a₀} {a₁} e₀ e₁ = record {
    gaps = small;
    sizes = record { under = pairs };
    most = let x : a₀ ≤ 4 * (2 ^ 20 * 2 ^ s) = rw e₀ (under p) in
        let y : a₁ ≤ 4 * (2 ^ 20 * 2 ^ s) = rw e₁ (under q) in
        omega (arith, mul-le-mul small.first x, mul-le-mul small.second y);
    shallow = shallow;
  }
    where
      pairs : (j : ℕ) → get_or (a₀ ∷ a₁ ∷ []) j 0 ≤ 2 ^ 46
      pairs zero = rw e₀ (sizes.under p)
      pairs (suc zero) = rw e₁ (sizes.under q)
      pairs (suc (suc j)) = zero-le
