-- The low and the high of a coordinate of degree 4 or 5 at a break point as the code computes them, from copied rows.
-- Degree 4 has three second differences and leaves the fourth out; degree 5 has four.
-- Their control values are whole, so m alone stands in the divisor.
-- Only the contracts of functions inside cite what stands here; nothing of it is part of a public promise.
use Rattle.std.specs.Prelude.{◌≡◌, cond, List, ℕ, ◌+◌, ◌*◌, ◌^◌, ◌≤◌, ltb, length, ℤ, pos, nat_abs, ◌+ℤ◌}
use Rattle.std.specs.Prelude.{◌-ℤ◌, ◌*ℤ◌, ◌≤ℤ◌}
use Rattle.integers.specs.Entry.{entry}
use Rattle.integers.specs.Rounding.{floor, ceiling}
use Rattle.curve_halves.specs.Sizes.{Each}
use Rattle.curve_nodes.specs.Differences.{difference}
use Rattle.bound_row_table.specs.Inside.{row_place}
use Rattle.bound_coordinate.specs.declared.higher.HigherTerms.{HigherTerms}
use Rattle.bound_coordinate.specs.Inside.{Computed}
use Rattle.bound_coordinate.specs.Terms.{chosen, chord_at, pair_of, denominator_of}

-- 2^28 times the divisor, by which a chord is raised: then no number that is divided is negative
abbrev pub raise_of : (m s : ℕ) → ℤ
raise_of m s = pos (2 ^ 28) *ℤ denominator_of m s

-- the terms of a coordinate of degree d for m pieces, over 2^s
unfoldable pub higher_of : (m d s : ℕ) → List ℤ → HigherTerms
higher_of m d s cs = record {
  degree = d;
  start = pos 10000 *ℤ (pos m *ℤ entry cs 0) +ℤ raise_of m s;
  step = pos 10000 *ℤ (entry cs d -ℤ entry cs 0);
  difference0 = difference cs 0;
  difference1 = difference cs 1;
  difference2 = difference cs 2;
  difference3 = difference cs 3;
  row0 = chosen (difference cs 0) (row_place d 0);
  row1 = chosen (difference cs 1) (row_place d 0 + 27);
  row2 = chosen (difference cs 2) (row_place d 0 + 54);
  row3 = chosen (difference cs 3) (row_place d 0 + 81);
}

-- the terms of m pieces, over 2^s, of a coordinate within 2^20
pub record HigherWithin (m s : ℕ) (t : HigherTerms) : Type 0 where
  pub start : nat_abs (t.start -ℤ raise_of m s) ≤ 10000 * (m * (2 ^ 20 * 2 ^ s))
  pub step : nat_abs t.step ≤ 20000 * (2 ^ 20 * 2 ^ s)
  pub chord : (i : ℕ) → i ≤ m → nat_abs (chord_at t.start t.step i -ℤ raise_of m s) ≤ 10000 * (m * (2 ^ 20 * 2 ^ s))
  pub difference0 : nat_abs t.difference0 ≤ 4 * (2 ^ 20 * 2 ^ s)
  pub difference1 : nat_abs t.difference1 ≤ 4 * (2 ^ 20 * 2 ^ s)
  pub difference2 : nat_abs t.difference2 ≤ 4 * (2 ^ 20 * 2 ^ s)
  pub difference3 : nat_abs t.difference3 ≤ 4 * (2 ^ 20 * 2 ^ s)
  pub row0 : t.row0 ≤ 271
  pub row1 : t.row1 ≤ 271
  pub row2 : t.row2 ≤ 271
  pub row3 : t.row3 ≤ 271

-- the bounds of m pieces over 2^s can be computed from these rows and terms; c is 5040 / m
pub record HigherComputable (m s c : ℕ) (rows : List ℤ) (t : HigherTerms) : Type 0 where
  pub each : Each (9000 * m) rows
  pub whole : length rows ≡ 297
  pub within : HigherWithin m s t
  pub shallow : s ≤ 20
  pub scaled : c * m ≡ 5040
  pub most : m ≤ 8

-- the bounds at break point i can be computed, for some number of pieces
pub record HigherComputableAt (i : ℕ) (rows : List ℤ) (t : HigherTerms) : Type 0 where
  pub m : ℕ
  pub s : ℕ
  pub c : ℕ
  pub computable : HigherComputable m s c rows t
  pub point : i ≤ m

-- the number that is divided at break point i: the raised chord and the sum of row × difference, three or four of them,
-- for rows read `at` places on
abbrev pub higher_numerator : List ℤ → HigherTerms → (at i : ℕ) → ℤ
higher_numerator rows t at i =
    chord_at t.start t.step i
    +ℤ (pair_of rows (t.row0 + at) (t.row1 + at) t.difference0 t.difference1
    +ℤ entry rows (t.row2 + at) *ℤ t.difference2
    +ℤ cond (ltb t.degree 5) (pos 0) (entry rows (t.row3 + at) *ℤ t.difference3))

-- what is divided is raised far enough: it is not negative, and what it is divided to at most 2^29; c is 5040 / m
pub record Raised (s c : ℕ) (n : ℤ) : Type 0 where
  pub some : pos 0 ≤ℤ n
  pub high : (n *ℤ pos c) ≤ℤ pos (2 ^ 29 * 3150000 * 2 ^ s)
  pub shallow : s ≤ 20

-- r is n over 625 m 2^s, rounded down, what was raised taken off again, for the m whose scale is c
pub record RoundedDown (s c : ℕ) (n r : ℤ) : Type 0 where
  pub of : (m : ℕ) → c * m ≡ 5040 → Computed (2 ^ 28) (floor n (denominator_of m s) -ℤ pos (2 ^ 28)) r

-- the low and the high at break point i, what was raised taken off again
unfoldable pub higher_low : (m s : ℕ) → List ℤ → HigherTerms → ℕ → ℤ
higher_low m s rows t i = floor (higher_numerator rows t (3 * i + 1) i) (denominator_of m s) -ℤ pos (2 ^ 28)

unfoldable pub higher_high : (m s : ℕ) → List ℤ → HigherTerms → ℕ → ℤ
higher_high m s rows t i = ceiling (higher_numerator rows t (3 * i) i) (denominator_of m s) -ℤ pos (2 ^ 28)
