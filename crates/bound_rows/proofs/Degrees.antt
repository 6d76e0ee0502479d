-- What holds of the degrees 1, 2 and 3, and of all degrees.
use Prim.Native.Nat.{ℕ, zero, suc, ◌≤◌}
use native.Mathlib.Omega.{arith}
use Rattle.setting.specs.Setting.{most_degree}

pub degrees : (P : ℕ → Type 0) → P 1 → P 2 → P 3 → (d : ℕ) → 1 ≤ d → d ≤ 3 → P d
degrees P one two three zero l h = absurd (omega arith)
degrees P one two three (suc zero) l h = one
degrees P one two three (suc (suc zero)) l h = two
degrees P one two three (suc (suc (suc zero))) l h = three
degrees P one two three (suc (suc (suc (suc d)))) l h = absurd (omega arith)

pub all_degrees : (P : ℕ → Type 0) → P 1 → P 2 → P 3 → P 4 → P 5 → (d : ℕ) → 1 ≤ d → d ≤ most_degree → P d
all_degrees P one two three four five zero l h = absurd (omega arith)
all_degrees P one two three four five (suc zero) l h = one
all_degrees P one two three four five (suc (suc zero)) l h = two
all_degrees P one two three four five (suc (suc (suc zero))) l h = three
all_degrees P one two three four five (suc (suc (suc (suc zero)))) l h = four
all_degrees P one two three four five (suc (suc (suc (suc (suc zero))))) l h = five
all_degrees P one two three four five (suc (suc (suc (suc (suc (suc d)))))) l h = absurd (omega arith)
