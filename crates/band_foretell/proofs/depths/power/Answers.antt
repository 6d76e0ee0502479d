-- A power of 2 up to 2^8.
use mathlib.Core.Path.{◌≡◌, refl, ◌∙◌, ap}
use Prim.Native.Nat.{ℕ, ◌^◌, ◌*◌, ◌%◌, ◌≤◌}
use native.Mathlib.Nat.{mod-eq_of_lt, lt_of_le_of_lt, one-mul}
use lib.Dec.{lit<}
use lib.Pow.{pow_mono, pow_pos}
use Rattle.band_foretell.proofs.depths.power.Goals as goal

under : {j : ℕ} → j ≤ 8 → 2 ^ j ≤ 256
under h = pow_mono {j = 8} h

power_is : {j : ℕ} → j ≤ 8 → 1 * 2 ^ j % 2 ^ 64 ≡ 2 ^ j
power_is {j} h = ap (λ (n : ℕ). n % 2 ^ 64) (one-mul (2 ^ j)) ∙ mod-eq_of_lt (lt_of_le_of_lt (under h) (lit< tt))

pub returns : goal.returns
returns c = rw (power_is c.requires) (refl, pow_pos c.args.j, under c.requires)
