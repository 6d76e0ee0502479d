-- What the code takes for G and for M: neither is less, and 64 bits have room.
use mathlib.Core.Path.{◌≡◌}
use mathlib.Core.List.{List}
use Prim.Native.Nat.{ℕ, zero, suc, ◌+◌, ◌-◌, ◌*◌, ◌^◌, ◌≤◌, ◌<◌, max}
use native.Mathlib.Nat.{mul-zero, le_trans, max-le}
use native.Mathlib.Omega.{arith}
use lib.Dec.{T, eqb, eqb→eq, lit≤}
use lib.IntN.{ℤ, nat_abs}
use Rattle.setting.specs.Setting.{HasRows}
use Rattle.integers.proofs.Table.{every_below}
use Rattle.curve_halves.specs.Sizes.{Each}
use Rattle.curve_nodes.specs.declared.Curve.{Curve}
use Rattle.curve_nodes.specs.Bounds.{Sized}
use Rattle.curve_nodes.specs.Differences.{difference, largest_of, largest}
use Rattle.curve_nodes.proofs.Sizes.{difference_under}
use Rattle.curve_nodes.proofs.Quarter.{bend_least}
use Rattle.bound_rows.specs.Table.{table, rows_of}
use Rattle.bound_rows.specs.Rule.{gap_of}
use Rattle.bound_pieces.specs.Inside.{near_gap, far_gap}
use Rattle.bound_pieces.proofs.Corners.{pieces_tested}

-- ---- G
lines_tested : T (every_below 8 (λ n. eqb (gap_of (suc n) 1) 0))
unfolding table rows_of gap_of largest_of
lines_tested = tt

pub line_gap : (m : ℕ) → HasRows m → gap_of m 1 ≡ 0
line_gap m h = eqb→eq (gap_of m 1) 0 (pieces_tested (λ m. eqb (gap_of m 1) 0) lines_tested m h)

pub corner_gap : (m : ℕ) → gap_of m 3 ≤ near_gap m + far_gap m
unfolding far_gap
corner_gap m = omega arith

-- ---- control values of a curve of a list, and their second differences
module _ {c : Curve} (s : Sized 0 c) where
  root : (d : ℕ) {cs : List ℤ} → Each (2 ^ 20 * 2 ^ (d * 0)) cs → Each (2 ^ 20) cs
  root d h = rw (mul-zero d) at h

  wider : {cs : List ℤ} → Each (2 ^ 20) cs → Each (2 ^ 44) cs
  wider h = record { under = λ k. le_trans (h.under k) (lit≤ tt) }

  pub values_x : Each (2 ^ 44) c.x
  values_x = wider (root c.degree s.x)

  pub values_y : Each (2 ^ 44) c.y
  values_y = wider (root c.degree s.y)

  pub difference_x : (k : ℕ) → nat_abs (difference c.x k) ≤ 2 ^ 22
  difference_x = difference_under (root c.degree s.x)

  pub difference_y : (k : ℕ) → nat_abs (difference c.y k) ≤ 2 ^ 22
  difference_y = difference_under (root c.degree s.y)

-- ---- M
module _ (c : Curve) (B : ℕ) where
  pub largest_least : ((k : ℕ) → k < c.degree - 1 → (nat_abs (difference c.x k) ≤ B) × (nat_abs (difference c.y k) ≤ B)) → largest c ≤ B
  unfolding largest
  largest_least h = max-le (bend_least c.degree c.x (λ k l. (h k l).0)) (bend_least c.degree c.y (λ k l. (h k l).1))

  pub line_bend : c.degree ≡ 1 → largest c ≤ B
  line_bend e = largest_least (λ k l. absurd (omega (arith, e, l)))

  module _ {x y : ℕ} (ix : x ≡ nat_abs (difference c.x 0)) (iy : y ≡ nat_abs (difference c.y 0)) where
    pub quadratic_bend : c.degree ≡ 2 → B ≡ max x y → largest c ≤ B
    quadratic_bend e b = largest_least (λ k l. at k (omega (arith, e, l)))
      where
        at : (k : ℕ) → k < 1 → (nat_abs (difference c.x k) ≤ B) × (nat_abs (difference c.y k) ≤ B)
        at zero l = (omega (arith, ix, b), omega (arith, iy, b))
        at (suc k) l = absurd (omega arith)

    pub cubic_bend : {u v f g : ℕ} → u ≡ nat_abs (difference c.x 1) → v ≡ nat_abs (difference c.y 1) → c.degree ≡ 3 → f ≡ max x y → g ≡ max u v → B ≡ max f g
        → largest c ≤ B
    cubic_bend {u} {v} {f} {g} iu iv e ef eg b = largest_least (λ k l. at k (omega (arith, e, l)))
      where
        at : (k : ℕ) → k < 2 → (nat_abs (difference c.x k) ≤ B) × (nat_abs (difference c.y k) ≤ B)
        at zero l = (omega (arith, ix, ef, b), omega (arith, iy, ef, b))
        at (suc zero) l = (omega (arith, iu, eg, b), omega (arith, iv, eg, b))
        at (suc (suc k)) l = absurd (omega arith)
