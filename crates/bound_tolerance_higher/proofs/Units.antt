-- A sum over 625 × 2^s, rounded up as the code does it, is the spread of 6 times the sum, which stands over 3750 × 2^s.
use mathlib.Core.Path.{◌≡◌, sym, ◌∙◌, ap}
use Prim.Native.Nat.{ℕ, ◌+◌, ◌-◌, ◌*◌, ◌/◌, ◌^◌, ◌≤◌, ◌<◌}
use native.Mathlib.Nat.{mul-le-mul, le_refl, div-div-eq-div-mul}
use native.Mathlib.Omega.{arith}
use lib.Dec.{lit≤}
use lib.IntN.{pos}
use mir.Syntax.{w64}
use mir.Val.{to_z}
use Rattle.bound_coordinate.specs.Inside.{Computed}
use Rattle.bound_pieces.specs.Inside.{up, spread_of}
use Rattle.bound_tolerance.proofs.SpreadLaws.{unit, unit_some, lowered_computed, spread_under}

-- both sides of a fraction times 6
sixfold_up : (n q : ℕ) → 0 < q → up (6 * n) (6 * q) ≡ up n q
sixfold_up n q h = sym (div-div-eq-div-mul (6 * n + (6 * q - 1)) 6 q) ∙ ap (λ (k : ℕ). k / q) {x = (6 * n + (6 * q - 1)) / 6} {y = n + (q - 1)} (omega arith)

pub units_computed : (n : ℕ) {more s : ℕ} → n ≤ 2 ^ 36 * 2 ^ s → more ≡ unit 625 s - 1 → s ≤ 24
    → Computed (2 ^ 27) (pos (spread_of (6 * n) s)) (to_z w64 ((n + more) / 2 ^ s / 625))
unfolding spread_of
units_computed n {s = s} h e l = lowered_computed 625 tt l n (omega arith) e
    (sym (sixfold_up n (unit 625 s) (unit_some 625 s (lit≤ tt))) ∙ ap (up (6 * n)) {x = 6 * unit 625 s} {y = 3750 * 2 ^ s} (omega arith))
    (spread_under (6 * n) s (mul-le-mul (le_refl 6) h))
