-- `judge::judge_point` meets its contract: each return is check 11 of a coordinate, or what the search finds.
use mathlib.Core.Path.{◌≡◌, subst}
use mathlib.Core.Option.{none}
use mir.Syntax.{w32}
use Rattle.integers.proofs.Ranges.{stored}
use Rattle.judge.specs.Judging.{Verdict}
use mathlib.Core.Bool.{true}
use Rattle.std.specs.Prelude.{Ok}
use mir.Facts.{to_z-of_z}
use Rattle.setting.specs.Setting.{lists}
use Rattle.boxes.specs.Ranges.{in_range}
use Rattle.judge.proofs.Holders.{in_ranges}
use Rattle.judge.proofs.Answers.{range_bad, range_fine, x_bad, y_bad, none_bad, judged_refused, judged_found}
use Rattle.judge.proofs.judge_point.Goals as goal
use Rattle.judge.proofs.judge_point.Goals.{Else-not-in_range, Else-not-in_range-2}

pub returns-then-not-in_range : goal.returns-then-not-in_range
returns-then-not-in_range c =
    let a = c.args in
    judged_refused (lists a.m) a.leaves.now a.x a.y _
    (x_bad (lists a.m) a.leaves.now a.x a.y c.requires.0 c.requires.1 (range_bad c.ranges.x c.in_range.ensures c.if-not-in_range.true-raw))

-- past the test of x
x-fine : (c : Else-not-in_range) → in_range c.args.x ≡ true
x-fine c = range_fine c.ranges.x c.in_range.ensures c.if-not-in_range.false-raw

pub returns-then-not-in_range-2 : goal.returns-then-not-in_range-2
returns-then-not-in_range-2 c =
    let a = c.args in
    judged_refused (lists a.m) a.leaves.now a.x a.y _
    (y_bad (lists a.m) a.leaves.now a.x a.y c.requires.0 c.requires.1 (x-fine (goal.at.returns-then-not-in_range-2 c).Else-not-in_range)
    (range_bad c.ranges.y c.in_range-2.ensures c.if-not-in_range-2.true-raw))

-- past both tests
both-fine : (c : Else-not-in_range-2) → let a = c.args in (in_range a.x ≡ true) × (in_range a.y ≡ true)
both-fine c = (x-fine c.before.before, range_fine c.ranges.y c.in_range-2.ensures c.if-not-in_range-2.false-raw)

pub find-requires : goal.find-requires
find-requires c =
    let f = both-fine c in
    (c.requires.0, c.requires.1, in_ranges c.ranges.x c.ranges.y f.0 f.1)

pub returns : goal.returns
returns c =
    let a = c.args in
    let f = both-fine (goal.at.returns c).Else-not-in_range-2 in
    judged_found (lists a.m) a.leaves.now a.x a.y (Ok c.find.result)
    (none_bad (lists a.m) a.leaves.now a.x a.y c.requires.0 c.requires.1 f.0 f.1)
    (subst (λ x. Verdict (lists a.m) none a.leaves.now x a.y (Ok c.find.result)) (to_z-of_z c.ranges.x)
    (subst (λ y. Verdict (lists a.m) none a.leaves.now (stored w32 a.x) y (Ok c.find.result)) (to_z-of_z c.ranges.y) c.find.ensures))
