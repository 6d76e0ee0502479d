-- `judge_list::leaf_faults::boxes_fault` meets its contract. The loop's invariant: the numbers of the first i boxes are fine.
use mathlib.Core.Path.{◌≡◌}
use mathlib.Core.List.{List}
use mathlib.Core.Option.{none}
use Prim.Native.Nat.{ℕ, suc, ◌*◌, ◌-◌, ◌≤◌}
use lib.IntN.{ℤ}
use Rattle.judge_list.specs.Inside.{boxes_fault_at}
use Rattle.judge_list.proofs.leaf_faults.boxes_fault.Given as goal

pub record Passed (m : ℕ) (ns : List ℤ) (at i : ℕ) : Type 0 where
  pub few : i ≤ suc m
  pub fine : boxes_fault_at ns at (4 * i) ≡ none

abbrev pub invariant-loop-i : goal.invariant-loop-i
invariant-loop-i l = Passed l.m l.leaves l.at l.i

abbrev pub decreases-loop-i : goal.decreases-loop-i
decreases-loop-i l = suc l.m - l.i
