-- `judge_runs::searching::next_box` meets its contract. The loop's invariant: the point is outside the boxes before k.
use Prim.Native.Nat.{◌-◌}
use Rattle.judge_runs.specs.Inside.{OutsideTo}
use Rattle.judge_runs.proofs.searching.next_box.Given as goal

abbrev pub invariant-loop-k : goal.invariant-loop-k
invariant-loop-k l = OutsideTo l.boxes l.x l.y l.from l.to l.k

abbrev pub decreases-loop-k : goal.decreases-loop-k
decreases-loop-k l = l.to - l.k
