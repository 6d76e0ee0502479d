-- `judge_runs::boxing::round_run` meets its contract. The loop's invariant: the box is round the records from `from` to `at`.
use mathlib.Core.Path.{◌≡◌}
use Prim.Native.Nat.{◌-◌, ◌%◌}
use Rattle.setting.specs.Setting.{lists, record_length}
use Rattle.judge_runs.specs.Inside.{Around}
use Rattle.judge_runs.proofs.boxing.round_run.Given as goal

abbrev pub invariant-loop-at : goal.invariant-loop-at
invariant-loop-at l = (l.at % record_length (lists l.m) ≡ 0) × Around (lists l.m) l.leaves l.from l.at l.around

abbrev pub decreases-loop-at : goal.decreases-loop-at
decreases-loop-at l = l.to - l.at
