-- The low and the high of a coordinate at a break point (document 01, "Enclosure rows"). Nothing here fixes the number
-- m of pieces, the rows, one for each second difference, or the denominator D over which the control values `cs` of
-- degree d are whole. The enclosure by second differences: D. Lutterkort, "Envelopes of Nonlinear Geometry" (thesis,
-- Purdue, 2000); D. Lutterkort and J. Peters, "Tight linear envelopes for splines" (Numerische Mathematik 89, 2001); as
-- here in J. Peters and X. Wu, "SLEVEs for planar spline curves" (CAGD 21, 2004), Lemma 3.2 and Definition 9.1.
use Rattle.std.specs.Prelude.{cond, List, [], ◌∷◌, ℕ, suc, ℤ, pos, ◌+ℤ◌, ◌-ℤ◌, ◌*ℤ◌}
use Rattle.std.specs.Int.Signed.{lt_z}
use Rattle.integers.specs.Entry.{entry}
use Rattle.integers.specs.Rounding.{floor, ceiling}
use Rattle.curve_nodes.specs.Differences.{difference}
use Rattle.bound_rows.specs.Rows.{Row}

-- each row with its high and its low swapped, by which the low is computed
abbrev pub swapped : List Row → List Row
swapped [] = []
swapped (ρ ∷ ρs) = record { high = ρ.low; low = ρ.high } ∷ swapped ρs

-- Sum of row × difference at break point i, over the differences from place k on: the high row for a difference that is
-- not negative, the low row for a negative one, each difference by its own sign.
unfoldable pub row_sum : List Row → ℕ → ℕ → List ℤ → ℤ
row_sum [] i k cs = pos 0
row_sum (ρ ∷ ρs) i k cs =
    cond (lt_z (difference cs k) (pos 0)) (entry ρ.low i) (entry ρ.high i) *ℤ difference cs k
    +ℤ row_sum ρs i (suc k) cs

-- 10000 m times the chord's value at break point i of m
abbrev pub chord : ℕ → ℕ → ℕ → List ℤ → ℤ
chord m d i cs = pos 10000 *ℤ ((pos m -ℤ pos i) *ℤ entry cs 0 +ℤ pos i *ℤ entry cs d)

-- the high at break point i, in sixteenths: 16 × (((m − i) × C0 + i × Cd) / m + sum of row × difference / 10000) / D,
-- rounded up, where C0 and Cd are the first and the last of cs
unfoldable pub high : (m : ℕ) → List Row → (D : ℤ) (d : ℕ) → List ℤ → ℕ → ℤ
high m ρs D d cs i = ceiling
    (pos 16 *ℤ (chord m d i cs +ℤ pos m *ℤ row_sum ρs i 0 cs))
    (pos 10000 *ℤ pos m *ℤ D)

-- the low at break point i: that formula with the rows swapped, rounded down
unfoldable pub low : (m : ℕ) → List Row → (D : ℤ) (d : ℕ) → List ℤ → ℕ → ℤ
low m ρs D d cs i = floor
    (pos 16 *ℤ (chord m d i cs +ℤ pos m *ℤ row_sum (swapped ρs) i 0 cs))
    (pos 10000 *ℤ pos m *ℤ D)
