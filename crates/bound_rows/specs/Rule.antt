-- The rule of the table of rows, and G (request 05, for degrees 4 and 5 request 08).
use Rattle.std.specs.Prelude.{◌≡◌, List, [], ◌∷◌, ℕ, suc, ◌+◌, ◌*◌, ◌-◌, ◌≤◌, ◌<◌, ℤ, pos, nat_abs, ◌+ℤ◌}
use Rattle.std.specs.Prelude.{◌-ℤ◌, ◌*ℤ◌, ◌≤ℤ◌}
use Rattle.std.proofs.Math.IntN.{pow}
use Rattle.integers.specs.Entry.{entry}
use Rattle.integers.specs.Rounding.{floor, ceiling}
use Rattle.curve_bernstein.specs.Value.{value}
use Rattle.curve_nodes.specs.Differences.{largest_of}
use Rattle.bound_rows.specs.Rows.{Row}
use Rattle.bound_rows.specs.Antidifferences.{antidifference}
use Rattle.bound_rows.specs.Joined.{Place, joined}
use Rattle.bound_rows.specs.Table.{rows_of}

-- d m^d times the polynomial of second difference k at break point i of m
abbrev pub at_break : (m d k i : ℕ) → ℤ
at_break m d k i = value (pos i) (pos (m - i)) d (antidifference d k)

-- ten thousand times the polynomial there, rounded up and rounded down
abbrev pub rounded_up : (m d k i : ℕ) → ℤ
rounded_up m d k i = ceiling (pos 10000 *ℤ at_break m d k i) (pos d *ℤ pow (pos m) d)

abbrev pub rounded_down : (m d k i : ℕ) → ℤ
rounded_down m d k i = floor (pos 10000 *ℤ at_break m d k i) (pos d *ℤ pow (pos m) d)

-- how far a low entry may be below that: 10000 × d × (d − 1) / (8 × m²), rounded up
abbrev pub allowed : (m d : ℕ) → ℤ
allowed m d = ceiling (pos (10000 * d * (d - 1))) (pos (8 * (m * m)))

-- The rule for the row of second difference k. `under` is at every rational parameter p / (p + r); both sides are
-- multiplied by d (p + r)^d.
pub record Ruled (m d k : ℕ) (ρ : Row) : Type 0 where
  pub high : (i : ℕ) → i ≤ m → entry ρ.high i ≡ rounded_up m d k i
  pub low : (i : ℕ) → i ≤ m → (rounded_down m d k i -ℤ allowed m d) ≤ℤ entry ρ.low i
  pub under : (i a b p r : ℕ) → i < m → Place m i a b p r
      → (pos d *ℤ pow (pos (p + r)) (d - 1) *ℤ joined (entry ρ.low) i a b)
      ≤ℤ (pos 10000 *ℤ value (pos p) (pos r) d (antidifference d k))

-- high less low at break point i, summed over the rows: the width of an enclosure whose second differences are all 1 in
-- size. J. Peters and X. Wu, "SLEVEs for planar spline curves" (CAGD 21, 2004), section 3.1, on the width.
abbrev pub gap_sum : List Row → ℕ → ℤ
gap_sum [] i = pos 0
gap_sum (ρ ∷ ρs) i = entry ρ.high i -ℤ entry ρ.low i +ℤ gap_sum ρs i

-- G: the largest such sum over the break points; 0 for degree 1
unfoldable pub gap_of : (m d : ℕ) → ℕ
gap_of m d = largest_of (suc m) (λ i. nat_abs (gap_sum (rows_of m d) i))
