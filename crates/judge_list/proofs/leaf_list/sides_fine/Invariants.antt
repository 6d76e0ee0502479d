-- `judge_list::leaf_list::sides_fine` meets its contract. The loop's invariant: `fine` is at most i, and is i exactly where the first i sides are fine.
use mathlib.Core.Path.{◌≡◌}
use mathlib.Core.List.{List}
use Prim.Native.Nat.{ℕ, ◌-◌, ◌≤◌}
use lib.Dec.{eqb}
use lib.IntN.{ℤ}
use Rattle.judge_list.specs.Inside.{sides_fine}
use Rattle.judge_list.proofs.leaf_list.sides_fine.Given as goal

pub record Passed (ns : List ℤ) (at sides fine i : ℕ) : Type 0 where
  pub few : i ≤ sides
  pub within : fine ≤ i
  pub is : eqb fine i ≡ sides_fine ns at i

abbrev pub invariant-loop-i : goal.invariant-loop-i
invariant-loop-i l = Passed l.leaves l.at l.sides l.fine l.i

abbrev pub decreases-loop-i : goal.decreases-loop-i
decreases-loop-i l = l.sides - l.i
