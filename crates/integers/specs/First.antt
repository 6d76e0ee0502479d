-- The first bad place: of n places from i on, the first that is not fine.
use Rattle.std.specs.Prelude.{Bool, true, false, ℕ, zero, suc, ◌+◌}
use Rattle.std.proofs.Math.Option.{Option, none, some}

unfoldable pub first_bad : (ℕ → Bool) → ℕ → ℕ → Option ℕ
first_bad fine zero i = none
first_bad fine (suc n) i = elim (fine i) [ true ↦ first_bad fine n (i + 1) | false ↦ some i ]
