-- The search from depth 0 on: `parts` is 4^j, and what is left to search has the least depth. At depth 8 all numbers are far below 2^62.
use mathlib.Core.Path.{◌≡◌}
use mathlib.Core.Bool.{Bool, not}
use Prim.Native.Nat.{ℕ, ◌+◌, ◌-◌, ◌^◌}
use Rattle.integers.specs.First.{first_bad}
use Rattle.band_foretell.specs.Inside.{divided_fits, least_depth}
use Rattle.band_foretell.proofs.premise.least_depth.Given as goal

abbrev pub missed : (G M T : ℕ) → ℕ → Bool
missed G M T k = not (divided_fits G M T k)

abbrev pub invariant-loop-j : goal.invariant-loop-j
invariant-loop-j l =
    (l.parts ≡ 4 ^ l.j) × (least_depth l.gap l.largest l.t l.deepest ≡ first_bad (missed l.gap l.largest l.t) (l.deepest + 1 - l.j) l.j)
