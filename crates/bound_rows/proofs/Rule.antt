-- The rule of the table, by one computed test over all of it, and what the test shows of the rows of each number of pieces and degree.
use mathlib.Core.Path.{◌≡◌, refl, ap, subst}
use mathlib.Core.Bool.{Bool, true, cond, ◌&&◌}
use mathlib.Core.List.{[]}
use Prim.Native.Nat.{ℕ, zero, suc, ◌+◌, ◌*◌, ◌-◌, ◌≤◌, ◌<◌, suc-le-suc}
use native.Mathlib.Omega.{arith}
use lib.Dec.{T, leb, leb→le, lit≤}
use lib.ListN.{length}
use lib.IntN.{pos, ◌-ℤ◌, pow, one}
use lib.Signed.{le_z, le_z_yes}
use Rattle.setting.specs.Setting.{HasRows, most_degree, degree_pieces}
use Rattle.integers.specs.Entry.{entry}
use Rattle.integers.specs.Rounding.{floor, ceiling}
use Rattle.integers.proofs.Order.{≤ℤ_antisymm}
use Rattle.integers.proofs.Table.{and_left, and_right, every_below, below, every, at}
use Rattle.curve_bernstein.specs.Value.{choose, sum, value}
use Rattle.curve_nodes.specs.Differences.{largest_of}
use Rattle.bound_rows.specs.Rows.{Row, row_at, pieces, thirds}
use Rattle.bound_rows.specs.Antidifferences.{antidifference}
use Rattle.bound_rows.specs.Table.{table, rows_at, rows_of}
use Rattle.bound_rows.specs.Rule.{rounded_up, rounded_down, allowed, Ruled, gap_sum, gap_of}
use Rattle.bound_rows.proofs.Degrees.{degrees}
use Rattle.bound_rows.proofs.Rows.{tested, row_below}
use Rattle.bound_rows.proofs.Gaps.{ordered, gaps_within}

-- ---- the test
-- the entries of row k at break point i: the high is the one rounded up, the low not too far below the one rounded down
abbrev high_fine : (m d k : ℕ) → Row → ℕ → Bool
high_fine m d k ρ i = le_z (entry ρ.high i) (rounded_up m d k i) && le_z (rounded_up m d k i) (entry ρ.high i)

abbrev low_fine : (m d k : ℕ) → Row → ℕ → Bool
low_fine m d k ρ i = le_z (rounded_down m d k i -ℤ allowed m d) (entry ρ.low i)

-- all entries of row k
abbrev entries_fine : (m d k : ℕ) → Row → Bool
entries_fine m d k ρ = every_below (suc m) (λ i. high_fine m d k ρ i && low_fine m d k ρ i)

-- all rows of degree d for m pieces: they bound their polynomials, their entries are as ruled, and their gaps add up to G at most
abbrev rows_fine : (m d : ℕ) → Bool
rows_fine m d = tested m d (rows_of m d) && (every (entries_fine m d) 0 (rows_of m d) && gaps_within m (gap_of m d) (rows_of m d))

-- a test over every number of pieces, m, and every degree that takes so many
abbrev asked : (ℕ → ℕ → Bool) → (m d : ℕ) → Bool
asked f m d = cond (degree_pieces d m) (f m d) true

abbrev everywhere : (ℕ → ℕ → Bool) → Bool
everywhere f = every_below 8 (λ n. every_below 6 (asked f (suc n)))

there : (f : ℕ → ℕ → Bool) → T (everywhere f) → (m d : ℕ) → HasRows m → d ≤ most_degree → degree_pieces d m ≡ true → T (f m d)
there f t zero d h l e = absurd (omega (arith, h.least))
there f t (suc n) d h l e = subst (λ b. T (cond b (f (suc n) d) true)) e
    (below 6 (asked f (suc n)) (below 8 (λ n. every_below 6 (asked f (suc n))) t n h.most) d (suc-le-suc l))

table_tested : T (everywhere rows_fine)
unfolding table rows_of gap_of largest_of antidifference value sum choose pow one floor ceiling
table_tested = tt

-- ---- what it shows
rows_length : (m at n : ℕ) → length (rows_at m at n) ≡ n
rows_length m at zero = refl
rows_length m at (suc n) = ap suc (rows_length m (at + 2 * (m + 1)) n)

-- a row for each second difference
pub rows_count : (m d : ℕ) → length (rows_of m d) ≡ d - 1
unfolding rows_of
rows_count m d = rows_length m _ (d - 1)

module _ (m d : ℕ) (h : HasRows m) (most : d ≤ most_degree) (takes : degree_pieces d m ≡ true) where
  fine : T (rows_fine m d)
  fine = there rows_fine table_tested m d h most takes

  abbrev all_entries : Bool
  all_entries = every (entries_fine m d) 0 (rows_of m d)

  abbrev all_gaps : Bool
  all_gaps = gaps_within m (gap_of m d) (rows_of m d)

  others : T (all_entries && all_gaps)
  others = and_right (tested m d (rows_of m d)) (all_entries && all_gaps) fine

  -- joined by lines, each row bounds its polynomial (`row_below`, `row_above`)
  pub rows_tested : T (tested m d (rows_of m d))
  rows_tested = and_left (tested m d (rows_of m d)) (all_entries && all_gaps) fine

  -- at each break point high less low adds up to G at most
  pub rows_apart : T (gaps_within m (gap_of m d) (rows_of m d))
  rows_apart = and_right all_entries all_gaps others

  -- no low is above its high
  pub rows_ordered : (i : ℕ) → i ≤ m → T (ordered (rows_of m d) i)
  rows_ordered i hi =
      let gaps : ℕ → Bool = λ j. le_z (gap_sum (rows_of m d) j) (pos (gap_of m d)) in
      and_left (ordered (rows_of m d) i) (gaps i) (below (suc m) (λ j. ordered (rows_of m d) j && gaps j) rows_apart i (suc-le-suc hi))

  -- each row is as request 05 rules
  module _ (k : ℕ) (hk : k < d - 1) where
    inside : k < length (rows_of m d)
    inside = rw (rows_count m d) hk

    abbrev ρ : Row
    ρ = row_at (rows_of m d) k

    entry_fine : (i : ℕ) → i ≤ m → T (high_fine m d k ρ i && low_fine m d k ρ i)
    entry_fine i hi = below (suc m) (λ i. high_fine m d k ρ i && low_fine m d k ρ i)
        (at (entries_fine m d) (rows_of m d) (record { high = []; low = [] }) (and_left all_entries all_gaps others) k inside) i (suc-le-suc hi)

    high_rounded : (i : ℕ) → i ≤ m → entry ρ.high i ≡ rounded_up m d k i
    high_rounded i hi =
        let x = entry ρ.high i in
        let y = rounded_up m d k i in
        let t = and_left (high_fine m d k ρ i) (low_fine m d k ρ i) (entry_fine i hi) in
        ≤ℤ_antisymm (le_z_yes (and_left (le_z x y) (le_z y x) t)) (le_z_yes (and_right (le_z x y) (le_z y x) t))

    pub rows_ruled : Ruled m d k (row_at (rows_of m d) k)
    rows_ruled = record {
      high = high_rounded;
      low = λ i hi. le_z_yes (and_right (high_fine m d k ρ i) (low_fine m d k ρ i) (entry_fine i hi));
      under = λ i a b p r hi w. row_below m d (rows_of m d) (omega (arith, hk)) rows_tested inside hi w;
    }

-- ---- G is 7500 for one piece of degree 3, and nowhere more
gaps_tested : T (everywhere (λ m d. leb (gap_of m d) 7500))
unfolding table rows_of gap_of largest_of
gaps_tested = tt

pub gap_most : (m d : ℕ) → HasRows m → d ≤ most_degree → degree_pieces d m ≡ true → gap_of m d ≤ 7500
gap_most m d h l e = leb→le (gap_of m d) 7500 (there (λ m d. leb (gap_of m d) 7500) gaps_tested m d h l e)

-- ---- three pieces
pub pieces_have_rows : HasRows pieces
pieces_have_rows = record { least = lit≤ tt; most = lit≤ tt }

-- their rows are document 01's
pub rows_thirds : (d : ℕ) → 1 ≤ d → d ≤ 3 → rows_of pieces d ≡ thirds d
unfolding table rows_of
rows_thirds = degrees (λ d. rows_of pieces d ≡ thirds d) refl refl refl

-- their G is 890 for degree 3 and less below
pub gap_thirds : (d : ℕ) → 1 ≤ d → d ≤ 3 → gap_of pieces d ≤ 890
unfolding table rows_of gap_of largest_of
gap_thirds = degrees (λ d. gap_of pieces d ≤ 890) (lit≤ tt) (lit≤ tt) (lit≤ tt)
