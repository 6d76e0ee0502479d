-- How the code goes by the number m of pieces: the m that is left where it is none of 1 to 7.
use mathlib.Core.Path.{◌≡◌}
use Prim.Native.Nat.{ℕ, suc, ◌≤◌}
use native.Mathlib.Omega.{arith}
use Rattle.setting.specs.Setting.{HasRows}

not_least : {k m : ℕ} → k ≤ m → (m ≡ k → ⊥) → suc k ≤ m
not_least h n = omega (arith, n)

-- what a match on m leaves where none of its cases 1 to 7 was taken, in the order of the cases
abbrev NoneOfSeven : ℕ → Type 0 → Type 0
NoneOfSeven m A = ((((((A × (m ≡ 1 → ⊥)) × (m ≡ 2 → ⊥)) × (m ≡ 3 → ⊥)) × (m ≡ 4 → ⊥)) × (m ≡ 5 → ⊥)) × (m ≡ 6 → ⊥)) × (m ≡ 7 → ⊥)

pub eight_left : {m : ℕ} {A : Type 0} → HasRows m → NoneOfSeven m A → m ≡ 8
eight_left {m} h r =
    let three = not_least (not_least h.least r.0.0.0.0.0.0.1) r.0.0.0.0.0.1 in
    let five = not_least (not_least three r.0.0.0.0.1) r.0.0.0.1 in
    let seven = not_least (not_least five r.0.0.1) r.0.1 in
    last (not_least seven r.1) h.most
  where
    last : 8 ≤ m → m ≤ 8 → m ≡ 8
    last l k = omega arith
