-- For contracts inside the engine alone, no part of a public promise: the rows of m pieces, copied out of the table as
-- the code reads them, and numbers put into a list.
use Rattle.std.specs.Prelude.{◌≡◌, true, cond, List, ℕ, ◌+◌, ◌*◌, ◌-◌, ◌/◌, ◌%◌, ◌≤◌, ◌<◌, eqb, ltb, length}
use Rattle.std.specs.Prelude.{ℤ, pos, nat_abs, ◌*ℤ◌}
use Rattle.setting.specs.Setting.{most_degree, degree_pieces}
use Rattle.integers.specs.Entry.{entry}
use Rattle.curve_halves.specs.Sizes.{Each}
use Rattle.bound_rows.specs.Rows.{Row, row_at}
use Rattle.bound_rows.specs.Table.{table, row_from, rows_of}

-- Where the rows of second difference k of degree d begin, 27 numbers each; those that a degree does not have are
-- zeros.
abbrev pub blocks_of : ℕ → ℕ
blocks_of d = cond (ltb d 3) 54 (cond (ltb d 4) 0 (cond (ltb d 5) 108 189))

abbrev pub row_place : (d k : ℕ) → ℕ
row_place d k = cond (ltb (k + 1) d) (blocks_of d + 27 * k) 81

-- Three numbers a break point: the high, the low, and the high again. From the first on they are high and low, from the
-- second on low and high.
abbrev pub triple_at : Row → (i j : ℕ) → ℤ
triple_at ρ i j = cond (eqb j 1) (entry ρ.low i) (entry ρ.high i)

-- number p of m times the rows of a second difference
abbrev pub copied_number : (m : ℕ) → Row → ℕ → ℤ
copied_number m ρ p = pos m *ℤ triple_at ρ (p / 3) (p % 3)

-- n numbers were put from place `at` on; all others are as before
pub record Put (at n : ℕ) (number : ℕ → ℤ) (before after : List ℤ) : Type 0 where
  pub here : (p : ℕ) → p < n → entry after (at + p) ≡ number p
  pub earlier : (p : ℕ) → p < at → entry after p ≡ entry before p
  pub later : (p : ℕ) → at + n ≤ p → entry after p ≡ entry before p
  pub whole : length after ≡ length before

-- n rows were put, 27 places each, from place `at` on: m times those that begin at place `from` of the table. No number
-- becomes larger than m times the entries up to there.
pub record PutRows (at n m from : ℕ) (before after : List ℤ) : Type 0 where
  pub row : (k i j : ℕ) → k < n → i ≤ m → j < 3
      → entry after (at + 27 * k + (3 * i + j)) ≡ pos m *ℤ triple_at (row_from m (from + k * (2 * (m + 1)))) i j
  pub earlier : (p : ℕ) → p < at → entry after p ≡ entry before p
  pub later : (p : ℕ) → at + 27 * n ≤ p → entry after p ≡ entry before p
  pub small : (B : ℕ) → ((p : ℕ) → p < from + n * (2 * (m + 1)) → nat_abs (entry table p) ≤ B) → Each (B * m) before
      → Each (B * m) after
  pub whole : length after ≡ length before

-- The numbers are m times the rows of degrees 3 and 2, with room for eight pieces, zeros, and where so many pieces have
-- them, m times the rows of degrees 4 and 5. Those of degrees 2 and 3 are smaller.
pub record Copied (m : ℕ) (rows : List ℤ) : Type 0 where
  pub row : (d k i j : ℕ) → d ≤ most_degree → degree_pieces d m ≡ true → k < d - 1 → i ≤ m → j < 3
      → entry rows (row_place d k + (3 * i + j)) ≡ pos m *ℤ triple_at (row_at (rows_of m d) k) i j
  pub none : (i : ℕ) → i < 27 → entry rows (81 + i) ≡ pos 0
  pub small : (p : ℕ) → p < 108 → nat_abs (entry rows p) ≤ 5000 * m
  pub each : Each (9000 * m) rows
  pub whole : length rows ≡ 297
