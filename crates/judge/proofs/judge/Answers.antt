-- `judge::judge` meets its contract: a fault of the list, or what is said of a list that passed.
use Rattle.std.proofs.lemmas.Result.{err_from_is_err_and}
use mir.Facts.{to_z-of_z}
use Rattle.setting.specs.Setting.{lists}
use Rattle.judge.proofs.Answers.{checked_fine, checked_refused, list_passed, list_first, judged_refused}
use Rattle.judge.proofs.judge.Goals as goal

pub judge_point-requires : goal.judge_point-requires
judge_point-requires c =
    let a = c.args in
    list_passed (lists a.m) a.leaves.now (checked_fine (lists a.m) a.leaves.now c.in_ok-check_list.ensures)

pub returns-in_err-check_list : goal.returns-in_err-check_list
returns-in_err-check_list c =
    let a = c.args in
    let σ = lists a.m in
    let p = err_from_is_err_and c.from_residual.result c.from_residual.ensures.1 in
    rw (p.1, p.2) (judged_refused σ a.leaves.now a.x a.y _
    (list_first σ a.leaves.now a.x a.y (checked_refused σ a.leaves.now c.in_err-check_list.ensures)))

pub returns : goal.returns
returns c = rw (to_z-of_z c.ranges.x, to_z-of_z c.ranges.y) at c.judge_point.ensures
