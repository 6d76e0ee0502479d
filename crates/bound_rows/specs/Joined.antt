-- What "bounds when joined by straight lines" means (document 01, "Enclosure rows"): what stands at the break points
-- against a value at each rational parameter. A parameter is p / (p + r), as in curve_nodes' Points. Each order is
-- multiplied out, so that it has no fraction.
use Rattle.std.specs.Prelude.{◌≡◌, ℕ, suc, ◌+◌, ◌*◌, ◌-◌, ℤ, pos, ◌+ℤ◌, ◌*ℤ◌, ◌≤ℤ◌}
use Rattle.std.proofs.Math.IntN.{pow}
use Rattle.integers.specs.Entry.{entry}
use Rattle.bound_rows.specs.Rows.{Row}

-- p / (p + r) lies on piece i of m, where the ends i / m and (i + 1) / m have the weights a and b.
pub record Place (m i a b p r : ℕ) : Type 0 where
  pub whole : a + b ≡ p + r
  pub at : a * i + b * suc i ≡ m * p

-- a + b times the line from f i to f (i + 1) at those weights
abbrev pub joined : (ℕ → ℤ) → (i a b : ℕ) → ℤ
joined f i a b = pos a *ℤ f i +ℤ pos b *ℤ f (suc i)

-- The rows ρ of a degree d, joined by lines, bound a polynomial, in ten-thousandths: P is (p + r)^d times its value at
-- p / (p + r). Both sides are multiplied by (p + r)^d.
pub record RowBounds (ρ : Row) (d : ℕ) (P : ℤ) (i a b p r : ℕ) : Type 0 where
  pub below : (pow (pos (p + r)) (d - 1) *ℤ joined (entry ρ.low) i a b) ≤ℤ (pos 10000 *ℤ P)
  pub above : (pos 10000 *ℤ P) ≤ℤ (pow (pos (p + r)) (d - 1) *ℤ joined (entry ρ.high) i a b)
