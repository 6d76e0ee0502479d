-- `judge_list::leaf_faults::number_fault` meets its contract: the first bad number is that of the first record that has one.
use mathlib.Core.Path.{sym, ◌∙◌, ap}
use borrow.Author.Rules.{rules}
use Rattle.setting.specs.Setting.{lists}
use Rattle.boxes.specs.Ranges.{place_of}
use Rattle.boxes.proofs.Faults.{place_some, place_none}
use Rattle.judge_list.proofs.Numbers.{starts_none, bad_turn, bad_there, bad_within, bad_somewhere}
use Rattle.judge_list.proofs.leaf_faults.number_fault.Goals as goal

pub record_fault-requires : goal.record_fault-requires
record_fault-requires c = (bad_turn (lists c.args.m) c.args.leaves.now c.requires.1 c.in_ok-at.ensures).more

pub returns-in_err-at : goal.returns-in_err-at
returns-in_err-at c = c.from_residual.ensures ∙ sym (ap place_of (starts_none (lists c.args.m) c.args.leaves.now c.in_err-at.ensures))

pub returns-in_err-place : goal.returns-in_err-place
returns-in_err-place c =
    absurd (bad_somewhere (lists c.args.m) c.args.leaves.now c.requires.1 c.in_ok-at.ensures (place_none _ c.in_err-place.ensures))

-- the sum is below the length of the list
pub overflow_add-result : goal.overflow_add-result
overflow_add-result c =
    let h = bad_within (lists c.args.m) c.args.leaves.now c.requires.1 c.in_ok-at.ensures _ (place_some _ c.in_ok-place.ensures) in
    search rules

pub returns : goal.returns
returns c =
    sym (ap place_of (bad_there (lists c.args.m) c.args.leaves.now c.requires.1 c.in_ok-at.ensures _ (place_some _ c.in_ok-place.ensures)))
