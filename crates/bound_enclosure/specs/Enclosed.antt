-- What "encloses" means (document 01, "Enclosure rows"): the lows and the highs at the break points, joined by straight
-- lines, against the curve's value at each rational parameter, as for the rows (`Joined` of `bound_rows`). Lemma 3.2
-- of J. Peters and X. Wu, "SLEVEs for planar spline curves" (CAGD 21, 2004), claims it.
use Rattle.std.specs.Prelude.{List, ℕ, ◌+◌, ◌-◌, ℤ, pos, ◌*ℤ◌, ◌≤ℤ◌}
use Rattle.std.proofs.Math.IntN.{pow}
use Rattle.curve_nodes.specs.Points.{sixteenths}
use Rattle.bound_rows.specs.Rows.{Row}
use Rattle.bound_rows.specs.Joined.{joined}
use Rattle.bound_enclosure.specs.Bounds.{high, low}

-- The lows and the highs, joined by lines, enclose 16 times the value of the coordinate `cs` over D. Both sides are
-- multiplied by D (p + r)^d.
pub record Encloses (m : ℕ) (ρs : List Row) (D : ℤ) (d : ℕ) (cs : List ℤ) (i a b p r : ℕ) : Type 0 where
  pub below : (D *ℤ pow (pos (p + r)) (d - 1) *ℤ joined (low m ρs D d cs) i a b) ≤ℤ sixteenths d p r cs
  pub above : sixteenths d p r cs ≤ℤ (D *ℤ pow (pos (p + r)) (d - 1) *ℤ joined (high m ρs D d cs) i a b)
