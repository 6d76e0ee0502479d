-- The claim on the rows (document 01, "Enclosure rows"): each row bounds, at every rational u from 0 to 1 when joined
-- by straight lines, −u(1−u), −u(1−u)(2−u) and −u(1−u)(1+u) respectively.
use Rattle.std.specs.Prelude.{◌≡◌, [], ◌∷◌, ℕ, ◌+◌, ◌<◌, ℤ, pos, neg_ℤ, ◌+ℤ◌, ◌-ℤ◌, ◌*ℤ◌}
use Rattle.bound_rows.specs.Rows.{Row, pieces, thirds}
use Rattle.bound_rows.specs.Joined.{Place, RowBounds}

-- ---- the polynomials at u = p / (p + r), where 1 − u = r / (p + r), each times (p + r)^d for its degree d
-- −u(1−u)
abbrev pub polynomial2_first : (p r : ℤ) → ℤ
polynomial2_first p r = neg_ℤ (p *ℤ r)

-- −u(1−u)(2−u)
abbrev pub polynomial3_first : (p r : ℤ) → ℤ
polynomial3_first p r = neg_ℤ (p *ℤ r *ℤ (pos 2 *ℤ (p +ℤ r) -ℤ p))

-- −u(1−u)(1+u)
abbrev pub polynomial3_second : (p r : ℤ) → ℤ
polynomial3_second p r = neg_ℤ (p *ℤ r *ℤ ((p +ℤ r) +ℤ p))

-- ---- the claim
-- The row ρ of degree d bounds the polynomial P at every rational u: u lies on a piece, and wherever it lies the lines
-- bound.
pub record Bounds (ρ : Row) (d : ℕ) (P : (p r : ℤ) → ℤ) : Type 0 where
  pub lies : (p r : ℕ) → 0 < p + r → (i : ℕ) × (a : ℕ) × (b : ℕ) × (i < pieces) × Place pieces i a b p r
  pub holds : (p r : ℕ) → 0 < p + r → (i a b : ℕ) → i < pieces → Place pieces i a b p r
      → RowBounds ρ d (P (pos p) (pos r)) i a b p r

-- the table has three rows, high and low, and each bounds its polynomial
pub record EachRowBounds : Type 0 where
  pub row2_first : Row
  pub row3_first : Row
  pub row3_second : Row
  pub degree2 : thirds 2 ≡ row2_first ∷ []
  pub degree3 : thirds 3 ≡ row3_first ∷ row3_second ∷ []
  pub bounds2_first : Bounds row2_first 2 polynomial2_first
  pub bounds3_first : Bounds row3_first 3 polynomial3_first
  pub bounds3_second : Bounds row3_second 3 polynomial3_second
