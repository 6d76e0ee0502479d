-- `judge_runs::boxing::round_boxes` meets its contract. The loop's invariant: the box is round the first i boxes.
use mathlib.Core.Path.{◌≡◌}
use Prim.Native.Nat.{◌≤◌, ◌-◌}
use Rattle.judge_runs.specs.Inside.{round_boxes}
use Rattle.judge_runs.proofs.boxing.round_boxes.Given as goal

abbrev pub invariant-loop-i : goal.invariant-loop-i
invariant-loop-i l = (l.i ≤ l.count) × (l.around ≡ round_boxes l.initial.around l.list l.at l.i)

abbrev pub decreases-loop-i : goal.decreases-loop-i
decreases-loop-i l = l.count - l.i
