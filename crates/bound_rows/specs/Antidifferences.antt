-- The polynomials that the rows bound (document 01, "Enclosure rows"), for every degree: the antidifference basis, dual
-- to the second differences. D. Lutterkort and J. Peters, "Optimized refinable enclosures of multivariate polynomial
-- pieces" (CAGD 18, 2001), section 2, has it for degree 3 and section 4, Lemma 1, for every space; J. Peters and X. Wu,
-- "SLEVEs for planar spline curves" (CAGD 21, 2004), section 3.1, Lemma 3.1.
use Rattle.std.specs.Prelude.{List, ℕ, suc, ◌*◌, ◌-◌, min, max, ℤ, pos, neg_ℤ}
use Rattle.curve_halves.specs.Halves.{listed}

-- d times the Bernstein coefficients of the polynomial of degree d whose ends are 0 and whose second differences are 1
-- at place k and 0 elsewhere: coefficient j is −min(j, k + 1) · (d − max(j, k + 1)).
unfoldable pub antidifference : (d k : ℕ) → List ℤ
antidifference d k = listed (suc d) (λ j. neg_ℤ (pos (min j (suc k) * (d - max j (suc k)))))
