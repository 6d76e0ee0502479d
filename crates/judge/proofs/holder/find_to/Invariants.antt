-- `judge::holder::find_to` meets its contract. The loop's invariant: no cover of the records before `first` holds the point.
use Prim.Native.Nat.{◌-◌}
use Rattle.setting.specs.Setting.{lists}
use Rattle.judge.specs.Inside.{Searched}
use Rattle.judge.proofs.holder.find_to.Given as goal

abbrev pub invariant-loop-at : goal.invariant-loop-at
invariant-loop-at l = Searched (lists l.m) l.leaves l.x l.y l.first

abbrev pub decreases-loop-at : goal.decreases-loop-at
decreases-loop-at l = l.to - l.first
