-- The sum and the difference of two numbers of a box that check 12 passes fit an i32.
use mathlib.Core.Path.{sym, subst}
use Prim.Native.Nat.{◌≤◌}
use native.Mathlib.Omega.{arith}
use lib.IntN.{ℤ, neg_ℤ, nat_abs, ◌+ℤ◌, ◌-ℤ◌}
use mir.Syntax.{w32}
use mir.Val.{SFits, to_z, of_z}
use mir.Facts.{to_z-of_z}
use Rattle.integers.proofs.Order.{≤ℤ_trans}
use Rattle.integers.proofs.Size.{abs_neg, abs_add, abs_within, mag_abs}
use Rattle.boxes.specs.Ranges.{farthest, Interval}

within : (a b : ℤ) → nat_abs a ≤ farthest → nat_abs b ≤ farthest → SFits w32 (a +ℤ b)
within a b h k = record { sfits = omega (arith, mag_abs (a +ℤ b), abs_add a b) }

module _ {low high : ℤ} (i : Interval low high) where
  low_size : nat_abs low ≤ farthest
  low_size = abs_within farthest low i.from (≤ℤ_trans i.order i.to)

  high_size : nat_abs high ≤ farthest
  high_size = abs_within farthest high (≤ℤ_trans i.from i.order) i.to

  pub sum_fits : SFits w32 (low +ℤ high)
  sum_fits = within low high low_size high_size

  pub difference_fits : SFits w32 (high -ℤ low)
  difference_fits = within high (neg_ℤ low) high_size (subst (λ n. n ≤ farthest) (sym (abs_neg low)) low_size)

  -- of both as the code holds them
  low_fits : SFits w32 low
  low_fits = record { sfits = omega (arith, mag_abs low, low_size) }

  high_fits : SFits w32 high
  high_fits = record { sfits = omega (arith, mag_abs high, high_size) }

  pub held_sum : SFits w32 (to_z w32 (of_z w32 low) +ℤ to_z w32 (of_z w32 high))
  held_sum = rw (to_z-of_z low_fits, to_z-of_z high_fits) sum_fits

  pub held_difference : SFits w32 (to_z w32 (of_z w32 high) -ℤ to_z w32 (of_z w32 low))
  held_difference = rw (to_z-of_z low_fits, to_z-of_z high_fits) difference_fits
