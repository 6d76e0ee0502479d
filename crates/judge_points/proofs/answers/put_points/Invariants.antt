-- `judge_points::answers::put_points` meets its contract. The loop's invariant: the numbers of the first i points stand.
use mathlib.Core.Path.{◌≡◌}
use Prim.Native.Nat.{◌-◌, ◌≤◌}
use lib.Seq.{sets}
use Rattle.setting.specs.Setting.{lists}
use Rattle.judge_points.specs.Points.{numbers_to}
use Rattle.judge_points.proofs.answers.put_points.Given as goal

abbrev pub invariant-loop-i : goal.invariant-loop-i
invariant-loop-i l =
    (l.i ≤ l.total) × (l.answers ≡ sets l.initial.answers 0 (numbers_to (lists l.m) l.leaves l.points l.i))

abbrev pub decreases-loop-i : goal.decreases-loop-i
decreases-loop-i l = l.total - l.i
