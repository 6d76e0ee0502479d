-- `judge_points::judge_points` meets its contract: a fault of the leaf list, 101, 8, or the numbers of all points.
use Rattle.std.proofs.lemmas.Result.{err_from_is_err_and}
use mathlib.Core.Path.{◌≡◌}
use mathlib.Core.Option.{none}
use Prim.Native.Nat.{◌*◌, ◌/◌, ◌≤◌}
use native.Mathlib.Omega.{arith}
use lib.ListN.{length}
use Rattle.setting.specs.Setting.{lists}
use Rattle.judge.specs.Judging.{list_fault}
use Rattle.judge.proofs.Answers.{checked_fine, checked_refused, list_passed}
use Rattle.judge_points.proofs.Faults.{list_bad, odd_bad, room_bad, none_bad, refused, accepted}
use Rattle.judge_points.proofs.judge_points.Goals as goal
use Rattle.judge_points.proofs.judge_points.Goals.{Else-answers-count, In_ok-check_list}

-- the leaf list passed
fine : (c : In_ok-check_list) → let a = c.args in list_fault (lists a.m) a.leaves.now ≡ none
fine c =
    let a = c.args in
    checked_fine (lists a.m) a.leaves.now c.in_ok-check_list.ensures

pub returns-then-points-ne0 : goal.returns-then-points-ne0
returns-then-points-ne0 c =
    let a = c.args in
    let σ = lists a.m in
    let both = refused σ a.leaves.now a.points.now a.answers.now
    (odd_bad σ a.leaves.now a.points.now (length a.answers.now) (fine (goal.at.returns-then-points-ne0 c).In_ok-check_list) c.if-points-ne0.true) in
    record { value = both.0; answers_after = both.1 }

pub returns-then-answers-count : goal.returns-then-answers-count
returns-then-answers-count c =
    let a = c.args in
    let σ = lists a.m in
    let both = refused σ a.leaves.now a.points.now a.answers.now
    (room_bad σ a.leaves.now a.points.now (length a.answers.now) (fine (goal.at.returns-then-answers-count c).In_ok-check_list) c.if-points-ne0.false c.if-answers-count.true) in
    record { value = both.0; answers_after = both.1 }

-- there is room for every point
room : (c : Else-answers-count) → let a = c.args in 3 * (length a.points.now / 2) ≤ length a.answers.now
room c = let h = c.if-answers-count.false in omega arith

pub put_all-requires : goal.put_all-requires
put_all-requires c =
    let a = c.args in
    let p = list_passed (lists a.m) a.leaves.now (fine (goal.at.put_all-requires c).In_ok-check_list) in
    (p.0, p.1, room (goal.at.put_all-requires c).Else-answers-count)

pub returns-in_err-check_list : goal.returns-in_err-check_list
returns-in_err-check_list c =
    let a = c.args in
    let σ = lists a.m in
    let p = err_from_is_err_and c.from_residual.result c.from_residual.ensures.1 in
    let both = refused σ a.leaves.now a.points.now a.answers.now
    (list_bad σ a.leaves.now a.points.now (length a.answers.now) (checked_refused σ a.leaves.now c.in_err-check_list.ensures)) in
    record { value = rw (p.1, p.2) both.0; answers_after = both.1 }

pub returns : goal.returns
returns c =
    let a = c.args in
    let σ = lists a.m in
    let both = accepted σ a.leaves.now a.points.now a.answers.now
    (none_bad σ a.leaves.now a.points.now (length a.answers.now) (fine (goal.at.returns c).In_ok-check_list) c.if-points-ne0.false c.if-answers-count.false)
    (room (goal.at.returns c).Else-answers-count) c.put_all.ensures in
    record { value = both.0; answers_after = both.1 }
