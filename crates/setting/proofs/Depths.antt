-- The greatest depth of a degree: at most 8, and so small that degree times depth stays within 24.
use mathlib.Core.Path.{◌≡◌, refl}
use mathlib.Core.Bool.{Bool, true, false, cond}
use Prim.Native.Nat.{ℕ, ◌*◌, ◌^◌, ◌≤◌, ◌<◌}
use native.Mathlib.Nat.{mul-le-mul, le_trans}
use borrow.Author.Tests.{leb-true, le-leb, lt-leb}
use lib.Pow.{pow_mono}
use lib.Dec.{leb, lit≤}
use Rattle.setting.specs.Setting.{most_degree, deepest}

pub depths : (deepest 1 ≡ 8) × (deepest 2 ≡ 8) × (deepest 3 ≡ 8) × (deepest 4 ≡ 4) × (deepest 5 ≡ 4)
depths = (refl, refl, refl, refl, refl)

pub deepest_low : (d : ℕ) → d ≤ 3 → deepest d ≡ 8
deepest_low d h = rw (le-leb d 3 h)

pub deepest_high : (d : ℕ) → 3 < d → deepest d ≡ 4
deepest_high d h = rw (lt-leb d 3 h)

pub deepest_most : (d : ℕ) → deepest d ≤ 8
deepest_most d = go (leb d 3)
  where
    go : (b : Bool) → cond b 8 4 ≤ 8
    go true = lit≤ tt
    go false = lit≤ tt

-- so many nodes at that depth
pub deepest_few : (d : ℕ) → 2 ^ deepest d ≤ 256
deepest_few d = pow_mono {j = 8} (deepest_most d)

pub degree_depth : (d k : ℕ) → d ≤ most_degree → k ≤ deepest d → d * k ≤ 24
degree_depth d k h l = go (leb d 3) refl l
  where
    go : (b : Bool) → leb d 3 ≡ b → k ≤ cond b 8 4 → d * k ≤ 24
    go true e l = mul-le-mul (leb-true d 3 e) l
    go false e l = le_trans (mul-le-mul h l) (lit≤ tt)
