-- `judge_list::leaf_list::first_bad` meets its contract. The loop's invariant: what lies before `at` is whole records without a fault.
use Prim.Native.Nat.{◌-◌}
use lib.ListN.{length}
use Rattle.setting.specs.Setting.{lists}
use Rattle.judge_list.proofs.Numbers.{ReadTo}
use Rattle.judge_list.proofs.leaf_list.first_bad.Given as goal

abbrev pub invariant-loop-at : goal.invariant-loop-at
invariant-loop-at l = ReadTo (lists l.m) l.leaves l.at

abbrev pub decreases-loop-at : goal.decreases-loop-at
decreases-loop-at l = length l.leaves - l.at
