-- The scale of a setting is 1 or 6.
use mathlib.Core.Bool.{Bool, true, false, cond}
use Prim.Native.Nat.{ℕ, ◌*◌, ◌^◌, ◌≤◌, ◌<◌}
use native.Mathlib.Nat.{mul-le-mul, le_refl, le_trans, one-le-pow, zero-lt-suc}
use native.Mathlib.Omega.{arith}
use lib.Dec.{lit≤}
use Rattle.setting.specs.Setting.{Setting, scale}

pub scale_some : (σ : Setting) → 0 < scale σ
scale_some σ = go σ.sixths
  where
    go : (b : Bool) → 0 < cond b 6 1
    go true = lit≤ tt
    go false = lit≤ tt

pub scale_most : (σ : Setting) → scale σ ≤ 6
scale_most σ = go σ.sixths
  where
    go : (b : Bool) → cond b 6 1 ≤ 6
    go true = lit≤ tt
    go false = lit≤ tt

-- 6 over the scale
abbrev pub rest : Bool → ℕ
rest sixths = cond sixths 1 6

-- control values over the scale times n, where n is not 0
pub scaled_some : (σ : Setting) {n : ℕ} → 0 < n → 0 < scale σ * n
scaled_some σ {n} h = mul-le-mul {n₁ = 1} {m₁ = 1} {n₂ = scale σ} {m₂ = n} (scale_some σ) h

pub scaled_more : (σ : Setting) (n : ℕ) → n ≤ scale σ * n
scaled_more σ n = le_trans (omega arith) (mul-le-mul {n₁ = 1} {m₁ = n} {n₂ = scale σ} {m₂ = n} (scale_some σ) (le_refl n))

-- the denominator of control values at a depth
pub over_some : (σ : Setting) (k : ℕ) → 0 < scale σ * 2 ^ k
over_some σ k = scaled_some σ (one-le-pow k 2 (zero-lt-suc 1))
