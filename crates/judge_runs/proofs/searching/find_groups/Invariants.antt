-- `judge_runs::searching::find_groups` meets its contract. The loop's invariant: no record of the groups before the next box holds the point.
use Prim.Native.Nat.{◌*◌}
use Rattle.setting.specs.Setting.{lists}
use Rattle.judge_runs.proofs.Passed.{SearchedTo, left}
use Rattle.judge_runs.proofs.searching.find_groups.Given as goal

abbrev pub invariant-loop-next : goal.invariant-loop-next
invariant-loop-next l = SearchedTo (lists l.m) l.leaves l.x l.y (l.run * 64) 0 l.number l.next

abbrev pub decreases-loop-next : goal.decreases-loop-next
decreases-loop-next l = left l.number l.next
