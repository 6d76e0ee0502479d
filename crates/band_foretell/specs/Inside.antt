-- For contracts inside the crate alone, no part of a public promise: the question that decides the premise, a depth as
-- code hands it on, and the sums on the way.
use Rattle.std.specs.Prelude.{Bool, not, ℕ, ◌+◌, ◌*◌, ◌-◌, ◌^◌, ◌≤◌, ℤ, pos, negsuc, ◌*ℤ◌}
use Rattle.std.specs.Prelude.{Option, Some, None}
use Rattle.std.proofs.Math.Option.{none, some}
use Rattle.std.specs.Int.Signed.{le_z}
use Rattle.integers.specs.First.{first_bad}
use Rattle.integers.specs.Squares.{squared}
use Rattle.band_foretold.specs.declared.foretelling.Foretold.{Foretold}

-- 2 a² ≤ b²
unfoldable pub doubled_fits : ℤ → ℤ → Bool
doubled_fits a b = le_z (pos 2 *ℤ squared a) (squared b)

-- whether j meets the premise, divided by 16, where control values are units
abbrev pub divided_fits : (G M t : ℕ) → ℕ → Bool
divided_fits G M t j = doubled_fits (pos (G * M + 1250 * 4 ^ j)) (pos (625 * t * 4 ^ j))

-- the least j up to `deepest` that meets the premise
unfoldable pub least_depth : (G M t deepest : ℕ) → Rattle.std.proofs.Math.Option.Option ℕ
least_depth G M t deepest = first_bad (λ j. not (divided_fits G M t j)) (deepest + 1) 0

-- a depth as code hands it on
abbrev pub depth_found : Rattle.std.proofs.Math.Option.Option ℕ → Option ℕ
depth_found none = None
depth_found (some j) = Some j

-- a depth as the number that is written
abbrev pub found_number : Option ℕ → ℤ
found_number (Some j) = pos j
found_number None = negsuc 0

-- no depth is greater than 8
abbrev pub depth_at : Option ℕ → ℕ
depth_at (Some j) = j
depth_at None = 0

pub record UpToEight (d : Option ℕ) : Type 0 where
  pub within : depth_at d ≤ 8

-- sums so small that a curve more does not wrap
abbrev pub few_of : Option Foretold → Type 0
few_of (Some f) = (f.leaves ≤ 2 ^ 40) × (f.nodes ≤ 2 ^ 40)
few_of None = Unit {0}

pub record FewSums (s : Option Foretold) : Type 0 where
  pub few : few_of s

-- the sums with one curve more, none where it has no depth or one before it had none
abbrev pub sums_with : Option Foretold → Option ℕ → Option Foretold
sums_with (Some f) (Some j) = Some (record { leaves = f.leaves + 2 ^ j; nodes = f.nodes + (2 * 2 ^ j - 1) })
sums_with (Some f) None = None
sums_with None d = None

-- the answer that the sums give
abbrev pub sums_answer : Option Foretold → Foretold
sums_answer (Some f) = f
sums_answer None = record { leaves = 0; nodes = 0 }
