-- `judge_runs::boxing::box_runs` meets its contract. The loop's invariant: the first `count` boxes are round the runs before `at`.
use mathlib.Core.Path.{◌≡◌}
use Prim.Native.Nat.{◌-◌}
use lib.ListN.{length}
use Rattle.setting.specs.Setting.{lists}
use Rattle.judge_runs.proofs.Runs.{RunsSoFar}
use Rattle.judge_runs.proofs.boxing.box_runs.Given as goal

abbrev pub invariant-loop-at : goal.invariant-loop-at
invariant-loop-at l = (length l.boxes ≡ length l.initial.boxes) × RunsSoFar (lists l.m) l.leaves l.run l.count l.at l.boxes

abbrev pub decreases-loop-at : goal.decreases-loop-at
decreases-loop-at l = length l.leaves - l.at
