-- `judge::beyond::near_from` meets its contract. The loop's invariant: the records from `from` to `at` are apart from the point.
use Prim.Native.Nat.{◌-◌}
use Rattle.setting.specs.Setting.{lists}
use Rattle.judge.specs.Inside.{ApartTo}
use Rattle.judge.proofs.beyond.near_from.Given as goal

abbrev pub invariant-loop-at : goal.invariant-loop-at
invariant-loop-at l = ApartTo (lists l.m) l.x l.y l.leaves l.from l.at

abbrev pub decreases-loop-at : goal.decreases-loop-at
decreases-loop-at l = l.to - l.at
