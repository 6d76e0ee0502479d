-- Bounds of one coordinate, by computation: rows chosen by the sign of each difference, and document 01's table read off the bounds of three
-- coordinates.
use mathlib.Core.Path.{◌≡◌, refl}
use mathlib.Core.List.{List, [], ◌∷◌}
use Prim.Native.Nat.{ℕ, ◌*◌}
use lib.IntN.{ℤ, pos, neg_ℤ}
use Rattle.setting.specs.Setting.{standard}
use Rattle.integers.specs.Rounding.{floor, ceiling}
use Rattle.bound_rows.specs.Table.{table, rows_of}
use Rattle.bound_enclosure.specs.Bounds.{row_sum, high, low}
use Rattle.bound_enclosure.specs.AtDepth.{low_of, high_of}

abbrev pub minus : ℕ → ℤ
minus n = neg_ℤ (pos n)

-- low and high of an undivided coordinate at the four break points
abbrev pub bounds : ℕ → List ℤ → List ℤ
bounds d cs =
    let l : ℕ → ℤ = low_of standard d 0 cs in
    let h : ℕ → ℤ = high_of standard d 0 cs in
    l 0 ∷ h 0 ∷ l 1 ∷ h 1 ∷ l 2 ∷ h 2 ∷ l 3 ∷ h 3 ∷ []

-- ---- second differences −90 and 90: each chooses its row by its own sign
pub wave : bounds 3 (pos 0 ∷ pos 30 ∷ minus 30 ∷ pos 0 ∷ []) ≡ minus 13 ∷ pos 101 ∷ pos 78 ∷ pos 208 ∷ minus 208 ∷ minus 78 ∷ minus 101 ∷ pos 13 ∷ []
unfolding table rows_of high low row_sum floor ceiling
wave = refl

-- ---- Where the ends are 0 and one second difference is 20000 or 30000, the bounds are 32 or 48 times its rows, each low before its high.
pub table_2_first : bounds 2 (pos 0 ∷ minus 10000 ∷ pos 0 ∷ [])
    ≡ minus (32 * 278) ∷ pos 0 ∷ minus (32 * 2500) ∷ minus (32 * 2222) ∷ minus (32 * 2500) ∷ minus (32 * 2222) ∷ minus (32 * 278) ∷ pos 0 ∷ []
unfolding table rows_of high low row_sum floor ceiling
table_2_first = refl

pub table_3_first : bounds 3 (pos 0 ∷ minus 20000 ∷ minus 10000 ∷ pos 0 ∷ [])
    ≡ minus (48 * 696) ∷ pos 0 ∷ minus (48 * 4400) ∷ minus (48 * 3703) ∷ minus (48 * 3155) ∷ minus (48 * 2962) ∷ minus (48 * 88) ∷ pos 0 ∷ []
unfolding table rows_of high low row_sum floor ceiling
table_3_first = refl

pub table_3_second : bounds 3 (pos 0 ∷ minus 10000 ∷ minus 20000 ∷ pos 0 ∷ [])
    ≡ minus (48 * 88) ∷ pos 0 ∷ minus (48 * 3155) ∷ minus (48 * 2962) ∷ minus (48 * 4400) ∷ minus (48 * 3703) ∷ minus (48 * 696) ∷ pos 0 ∷ []
unfolding table rows_of high low row_sum floor ceiling
table_3_second = refl
