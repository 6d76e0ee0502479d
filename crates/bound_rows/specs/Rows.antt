-- Enclosure rows (document 01, "Enclosure rows"). A coordinate is its chord plus a sum of polynomials, each times a
-- second difference. A row bounds one of these polynomials, in ten-thousandths, at the break points. `thirds` are the
-- rows of three pieces: the table a[d, m, sgn, ν, μ] for m = 3 of J. Peters and X. Wu, "SLEVEs for planar spline
-- curves" (CAGD 21, 2004), section 3.1.
use Rattle.std.specs.Prelude.{List, [], ◌∷◌, ℕ, zero, suc, get_or, ℤ, pos, neg_ℤ}

-- the row of one second difference: at each break point a number not below its polynomial, and one not above it
pub record Row : Type 0 where
  pub high : List ℤ
  pub low : List ℤ

-- row k, which belongs to second difference k
abbrev pub row_at : List Row → ℕ → Row
row_at ρs k = get_or ρs k (record { high = []; low = [] })

-- how many pieces document 01 has
abbrev pub pieces : ℕ
pieces = 3

abbrev minus : ℕ → ℤ
minus n = neg_ℤ (pos n)

-- one row for each second difference of the degree, in their order; a degree without second differences has none
abbrev pub thirds : ℕ → List Row
thirds zero = []
thirds (suc zero) = []
thirds (suc (suc zero)) =
    record {
      high = pos 0 ∷ minus 2222 ∷ minus 2222 ∷ pos 0 ∷ [];
      low = minus 278 ∷ minus 2500 ∷ minus 2500 ∷ minus 278 ∷ [];
    }
    ∷ []
thirds (suc (suc (suc zero))) =
    record {
      high = pos 0 ∷ minus 3703 ∷ minus 2962 ∷ pos 0 ∷ [];
      low = minus 696 ∷ minus 4400 ∷ minus 3155 ∷ minus 88 ∷ [];
    }
    ∷ record {
      high = pos 0 ∷ minus 2962 ∷ minus 3703 ∷ pos 0 ∷ [];
      low = minus 88 ∷ minus 3155 ∷ minus 4400 ∷ minus 696 ∷ [];
    }
    ∷ []
thirds (suc (suc (suc (suc d)))) = []
