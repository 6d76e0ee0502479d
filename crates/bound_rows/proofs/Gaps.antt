-- How far apart the high and the low rows are at the break points, as a test to compute.
use mathlib.Core.Bool.{Bool, true, ◌&&◌}
use mathlib.Core.List.{List, [], ◌∷◌}
use Prim.Native.Nat.{ℕ, suc}
use lib.IntN.{pos, ◌-ℤ◌}
use lib.Signed.{non_neg, le_z}
use Rattle.integers.specs.Entry.{entry}
use Rattle.integers.proofs.Table.{every_below}
use Rattle.bound_rows.specs.Rows.{Row}
use Rattle.bound_rows.specs.Rule.{gap_sum}

-- no low is above its high
abbrev pub ordered : List Row → ℕ → Bool
ordered [] i = true
ordered (ρ ∷ ρs) i = non_neg (entry ρ.high i -ℤ entry ρ.low i) && ordered ρs i

-- at each of the break points 0 to m the gaps add up to G at most
abbrev pub gaps_within : (m G : ℕ) → List Row → Bool
gaps_within m G ρs = every_below (suc m) (λ i. ordered ρs i && le_z (gap_sum ρs i) (pos G))
