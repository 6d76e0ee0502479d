-- Control values within 2^20, as a curve of an outline has them, have room for a second difference.
use mathlib.Core.List.{List}
use Prim.Native.Nat.{ℕ, ◌*◌, ◌^◌}
use native.Mathlib.Nat.{mul-zero, le_trans}
use lib.Dec.{lit≤}
use lib.IntN.{ℤ}
use Rattle.curve_halves.specs.Sizes.{Each}

root : (d : ℕ) {cs : List ℤ} → Each (2 ^ 20 * 2 ^ (d * 0)) cs → Each (2 ^ 20) cs
root d h = rw (mul-zero d) at h

pub root_values : (d : ℕ) {cs : List ℤ} → Each (2 ^ 20 * 2 ^ (d * 0)) cs → Each (2 ^ 44) cs
root_values d h = record { under = λ k. le_trans ((root d h).under k) (lit≤ tt) }
