-- Document 01's claim on the rows, as one theorem.
use mathlib.Core.Path.{refl}
use Prim.Native.Nat.{ℕ, ◌<◌}
use native.Mathlib.Omega.{arith}
use lib.IntN.{ℤ, pos}
use Rattle.bound_rows.specs.Rows.{Row, row_at, pieces, thirds}
use Rattle.bound_rows.specs.Joined.{Place, RowBounds}
use Rattle.bound_rows.specs.Claim.{Bounds, EachRowBounds}
use Rattle.bound_rows.proofs.Places.{located}
use Rattle.bound_rows.proofs.Rows.{row_2_first, row_3_first, row_3_second}

everywhere : {ρ : Row} {d : ℕ} {P : (p r : ℤ) → ℤ}
    → ((p r i a b : ℕ) → i < pieces → Place pieces i a b p r → RowBounds ρ d (P (pos p) (pos r)) i a b p r) → Bounds ρ d P
everywhere h = record {
  lies = λ p r some. let w = located pieces p r (omega arith) in (w.piece, w.near, w.far, w.inside, w.place);
  holds = λ p r some i a b hi w. h p r i a b hi w;
}

pub each_row_bounds : EachRowBounds
each_row_bounds = record {
  row2_first = row_at (thirds 2) 0;
  row3_first = row_at (thirds 3) 0;
  row3_second = row_at (thirds 3) 1;
  degree2 = refl;
  degree3 = refl;
  bounds2_first = everywhere (λ p r i a b hi w. row_2_first hi w);
  bounds3_first = everywhere (λ p r i a b hi w. row_3_first hi w);
  bounds3_second = everywhere (λ p r i a b hi w. row_3_second hi w);
}
