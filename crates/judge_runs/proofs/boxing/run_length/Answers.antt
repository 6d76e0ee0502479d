-- `judge_runs::boxing::run_length` meets its contract: no more than the list's numbers, and a 2,048th of them at least.
use mathlib.Core.Path.{sym, subst}
use Prim.Native.Nat.{◌+◌, ◌*◌, ◌-◌, ◌/◌, ◌≤◌}
use native.Mathlib.Nat.{div-le_self}
use borrow.Author.Rules.{rules}
use Rattle.setting.specs.Setting.{lists}
use Rattle.setting.proofs.Pieces.{record_length_is}
use Rattle.judge_runs.specs.Inside.{RunLength}
use Rattle.judge_runs.proofs.Runs.{records_some, run_few, run_within, run_length}
use Rattle.judge_runs.proofs.boxing.run_length.Goals as goal
use Rattle.judge_runs.proofs.boxing.run_length.Goals.{Start}

pub overflow_sub-result : goal.overflow_sub-result
overflow_sub-result c = let a = c.args in subst (λ n. 1 ≤ a.numbers / n) (sym (record_length_is a.m)) (records_some (lists a.m) a.numbers c.requires.1)

-- the factor is no more than the records
few : (c : Start) → let a = c.args in let n = a.numbers / (6 + 4 * a.m) in (n - 1) / 2048 + 1 ≤ n
few c =
    let a = c.args in
    subst (λ k. (a.numbers / k - 1) / 2048 + 1 ≤ a.numbers / k) (sym (record_length_is a.m)) (run_few (lists a.m) a.numbers c.requires.1)

within : (c : Start) → let a = c.args in (6 + 4 * a.m) * ((a.numbers / (6 + 4 * a.m) - 1) / 2048 + 1) ≤ a.numbers
within c =
    let a = c.args in
    subst (λ k. k * ((a.numbers / k - 1) / 2048 + 1) ≤ a.numbers) (sym (record_length_is a.m)) (run_within (lists a.m) a.numbers c.requires.1)

pub returns : goal.returns
returns c =
    let a = c.args in
    subst (λ k. RunLength (lists a.m) a.numbers (k * ((a.numbers / k - 1) / 2048 + 1))) (sym (record_length_is a.m))
    (run_length (lists a.m) a.numbers c.requires.1)

pub overflow_mul-record_length : goal.overflow_mul-record_length
overflow_mul-record_length c = let h = c.requires.0.most in search rules

pub overflow_add-record_length : goal.overflow_add-record_length
overflow_add-record_length c = let h = c.requires.0.most in search rules

pub overflow_add-result : goal.overflow_add-result
overflow_add-result c = let h = few c in let f = div-le_self c.args.numbers (6 + 4 * c.args.m) in search rules

pub overflow_mul-result : goal.overflow_mul-result
overflow_mul-result c = let h = within c in search rules
