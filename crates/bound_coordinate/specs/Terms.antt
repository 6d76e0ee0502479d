-- The low and the high of a coordinate of degree 1 to 3 at a break point as the code computes them, from copied rows.
-- Only the contracts of functions inside cite what stands here; nothing of it is part of a public promise.
use Rattle.std.specs.Prelude.{◌≡◌, cond, List, ℕ, ◌+◌, ◌*◌, ◌^◌, ◌≤◌, ◌<◌, length, ℤ, pos, nat_abs, ◌+ℤ◌, ◌-ℤ◌, ◌*ℤ◌}
use Rattle.std.specs.Int.Signed.{lt_z}
use Rattle.integers.specs.Entry.{entry}
use Rattle.integers.specs.Rounding.{floor, ceiling}
use Rattle.curve_nodes.specs.Differences.{difference}
use Rattle.bound_row_table.specs.Inside.{row_place}
use Rattle.bound_coordinate.specs.declared.terms.Terms.{Terms}

-- where a difference begins to read the rows at p: a negative one, whose high is the low row's, one number further on
abbrev pub chosen : ℤ → ℕ → ℕ
chosen δ p = cond (lt_z δ (pos 0)) (p + 1) p

-- the terms of a coordinate of degree d for m pieces
unfoldable pub terms_of : (m d : ℕ) → List ℤ → Terms
terms_of m d cs = record {
  start = pos 10000 *ℤ (pos m *ℤ entry cs 0);
  step = pos 10000 *ℤ (entry cs d -ℤ entry cs 0);
  difference0 = difference cs 0;
  difference1 = difference cs 1;
  row0 = chosen (difference cs 0) (row_place d 0);
  row1 = chosen (difference cs 1) (row_place d 1);
}

-- 10000 m times the chord's value at break point i
abbrev pub chord_at : (start step : ℤ) → ℕ → ℤ
chord_at start step i = start +ℤ pos i *ℤ step

-- the terms of m pieces, over 2^s, of a coordinate within 2^20
pub record TermsWithin (m s : ℕ) (t : Terms) : Type 0 where
  pub start : nat_abs t.start ≤ 10000 * (m * (2 ^ 20 * 2 ^ s))
  pub step : nat_abs t.step ≤ 20000 * (2 ^ 20 * 2 ^ s)
  pub chord : (i : ℕ) → i ≤ m → nat_abs (chord_at t.start t.step i) ≤ 10000 * (m * (2 ^ 20 * 2 ^ s))
  pub difference0 : nat_abs t.difference0 ≤ 4 * (2 ^ 20 * 2 ^ s)
  pub difference1 : nat_abs t.difference1 ≤ 4 * (2 ^ 20 * 2 ^ s)
  pub row0 : t.row0 ≤ 82
  pub row1 : t.row1 ≤ 82

-- the bounds of m pieces over 2^s can be computed from these rows and terms, divided by 625 q 2^s; q is m times the
-- scale of the control values, and c is 5040 / q
pub record Computable (m q s c : ℕ) (rows : List ℤ) (t : Terms) : Type 0 where
  pub small : (p : ℕ) → p < 108 → nat_abs (entry rows p) ≤ 5000 * m
  pub whole : length rows ≡ 297
  pub within : TermsWithin m s t
  pub shallow : s ≤ 24
  pub scaled : c * q ≡ 5040
  pub most : m ≤ 8
  pub less : m ≤ q
  pub few : q ≤ 48

-- the bounds at break point i can be computed, for some number of pieces
pub record ComputableAt (q s c i : ℕ) (rows : List ℤ) (t : Terms) : Type 0 where
  pub m : ℕ
  pub computable : Computable m q s c rows t
  pub point : i ≤ m

-- the number that is divided at break point i can be computed, for some divisor
pub record NumeratorAt (i : ℕ) (rows : List ℤ) (t : Terms) : Type 0 where
  pub q : ℕ
  pub s : ℕ
  pub c : ℕ
  pub at : ComputableAt q s c i rows t

-- the sum of row × difference for two differences, whose rows are read from places p and q
abbrev pub pair_of : List ℤ → (p q : ℕ) (δ ε : ℤ) → ℤ
pair_of rows p q δ ε = entry rows p *ℤ δ +ℤ entry rows q *ℤ ε

-- the number that is divided at break point i: the chord and that sum
abbrev pub numerator_of : List ℤ → Terms → (p q i : ℕ) → ℤ
numerator_of rows t p q i = chord_at t.start t.step i +ℤ pair_of rows p q t.difference0 t.difference1

abbrev pub denominator_of : (q s : ℕ) → ℤ
denominator_of q s = pos 625 *ℤ pos q *ℤ pos (2 ^ s)

-- the low and the high at break point i
unfoldable pub low_by : (q s : ℕ) → List ℤ → Terms → ℕ → ℤ
low_by q s rows t i =
    floor (numerator_of rows t (t.row0 + (3 * i + 1)) (t.row1 + (3 * i + 1)) i) (denominator_of q s)

unfoldable pub high_by : (q s : ℕ) → List ℤ → Terms → ℕ → ℤ
high_by q s rows t i = ceiling (numerator_of rows t (t.row0 + 3 * i) (t.row1 + 3 * i) i) (denominator_of q s)
