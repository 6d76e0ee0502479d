-- `judge_list::leaf_list::first_bad` meets its contract. The loop's invariant: what lies before `at` is whole records without a fault.
use mathlib.Core.Path.{sym, ◌∙◌}
use native.Mathlib.Omega.{arith}
use borrow.Author.Rules.{rules}
use borrow.Author.Tests.{not-true, not-false}
use Rattle.setting.specs.Setting.{lists}
use Rattle.setting.proofs.Pieces.{record_length_is}
use Rattle.judge_list.proofs.Numbers.{record_fine_law, read_none, Turn, turn_at, read_more, begins_bad, begins_nowhere}
use Rattle.judge_list.proofs.leaf_list.first_bad.Goals as goal
use Rattle.judge_list.proofs.leaf_list.first_bad.Goals.{In-loop-at}

turn : (c : In-loop-at) → Turn (lists c.args.m) c.args.leaves.now c.loop-at.at
turn c = turn_at (lists c.args.m) c.args.leaves.now c.loop-at.invariant c.requires.1 c.loop-at-test.true

pub returns-then-not-record_fine : goal.returns-then-not-record_fine
returns-then-not-record_fine c =
    let a = c.args in
    let e = sym c.record_fine.ensures ∙ not-true c.record_fine.result c.if-not-record_fine.true-raw in
    begins_bad (lists a.m) a.leaves.now c.loop-at.at (turn (goal.at.returns-then-not-record_fine c).In-loop-at) e

pub loop-at-preserved : goal.loop-at-preserved
loop-at-preserved c =
    let a = c.args in
    let σ = lists a.m in
    let e = sym c.record_fine.ensures ∙ not-false c.record_fine.result c.if-not-record_fine.false-raw in
    rw (record_length_is a.m) (read_more σ a.leaves.now c.loop-at.at (turn (goal.at.loop-at-preserved c).In-loop-at) (record_fine_law σ a.leaves.now c.loop-at.at e))

pub returns : goal.returns
returns c =
    begins_nowhere (lists c.args.m) c.args.leaves.now c.loop-at.at c.loop-at.invariant c.loop-at-test.false

pub overflow_mul-record_length : goal.overflow_mul-record_length
overflow_mul-record_length c = let h = c.requires.0.most in search rules

pub overflow_add-record_length : goal.overflow_add-record_length
overflow_add-record_length c = let h = c.requires.0.most in search rules

pub loop-at-init : goal.loop-at-init
loop-at-init c = read_none (lists c.args.m) c.args.leaves.now

pub record_fine-requires : goal.record_fine-requires
record_fine-requires c = (c.requires.0, (turn c).more)

pub overflow_add-at : goal.overflow_add-at
overflow_add-at c = let h = (turn (goal.at.overflow_add-at c).In-loop-at).more in search rules

pub loop-at-smaller : goal.loop-at-smaller
loop-at-smaller c = omega arith
