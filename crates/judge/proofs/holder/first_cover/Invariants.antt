-- `judge::holder::first_cover` meets its contract. The loop's invariant: none of the first i covers holds the point.
use Prim.Native.Nat.{◌-◌}
use Rattle.setting.specs.Setting.{lists}
use Rattle.judge.proofs.Holders.{Missed}
use Rattle.judge.proofs.holder.first_cover.Given as goal

abbrev pub invariant-loop-i : goal.invariant-loop-i
invariant-loop-i l = Missed (lists l.m) l.leaves l.x l.y l.at l.i

abbrev pub decreases-loop-i : goal.decreases-loop-i
decreases-loop-i l = l.m - l.i
