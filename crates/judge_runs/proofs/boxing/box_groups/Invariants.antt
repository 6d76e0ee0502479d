-- `judge_runs::boxing::box_groups` meets its contract. The loop's invariant: the first `number` boxes are round the runs before `first`.
use mathlib.Core.Path.{◌≡◌}
use Prim.Native.Nat.{◌-◌}
use lib.ListN.{length}
use Rattle.judge_runs.proofs.Groups.{GroupsSoFar}
use Rattle.judge_runs.proofs.boxing.box_groups.Given as goal

abbrev pub invariant-loop-first : goal.invariant-loop-first
invariant-loop-first l = (length l.groups ≡ length l.initial.groups) × GroupsSoFar l.runs l.count l.number l.first l.groups

abbrev pub decreases-loop-first : goal.decreases-loop-first
decreases-loop-first l = l.count - l.first
