-- `judge_runs::boxing::box_groups` meets its contract. The loop's invariant: the first `number` boxes are round the runs before `first`.
use mathlib.Core.Path.{◌∙◌, ap}
use Prim.Native.Nat.{◌+◌, ◌*◌, ◌≤◌}
use native.Mathlib.Omega.{arith}
use borrow.Author.Rules.{rules}
use lib.ListN.{length}
use lib.Seq.{sets, length-sets}
use Rattle.boxes.specs.Ranges.{numbers_of}
use Rattle.judge_runs.proofs.Runs.{room_left}
use Rattle.judge_runs.proofs.Groups.{grouped_none, group_left, grouped_more, grouped_all}
use Rattle.judge_runs.proofs.boxing.box_groups.Goals as goal
use Rattle.judge_runs.proofs.boxing.box_groups.Goals.{In-loop-first}

pub loop-first-init : goal.loop-first-init
loop-first-init c = (search rules, grouped_none c.args.runs.now c.args.count c.args.groups.now)

-- there is room for one more box
room : (c : In-loop-first) → 4 * c.loop-first.number + 4 ≤ length c.loop-first.groups
room c =
    room_left (group_left c.requires.0 c.loop-first.invariant.1 c.loop-first-test.true) c.loop-first.invariant.0 c.requires.2

pub overflow_sub-next : goal.overflow_sub-next
overflow_sub-next c = let h = c.run_end-next.ensures.onward c.loop-first-test.true (omega arith) in search rules

pub round_boxes-around-requires : goal.round_boxes-around-requires
round_boxes-around-requires c =
    let h = c.run_end-next.ensures.onward c.loop-first-test.true (omega arith) in
    let i = c.run_end-next.ensures.inside in
    let p = c.requires.1 in
    omega arith

pub loop-first-smaller : goal.loop-first-smaller
loop-first-smaller c =
    let t = c.loop-first-test.true in
    let h = c.run_end-next.ensures.onward t (omega arith) in
    omega arith

pub loop-first-preserved : goal.loop-first-preserved
loop-first-preserved c = (
  ap length c.put_box.ensures ∙ length-sets c.loop-first.groups (4 * c.loop-first.number) (numbers_of c.round_boxes-around.result) ∙ c.loop-first.invariant.0,
  grouped_more c.requires.0 c.loop-first.invariant.1 c.loop-first-test.true c.run_end-next.ensures c.nowhere.result
      (c.put_box.ensures ∙ ap (λ d. sets c.loop-first.groups (4 * c.loop-first.number) (numbers_of d)) c.round_boxes-around.ensures) (room (goal.at.loop-first-preserved c).In-loop-first),
)

pub returns : goal.returns
returns c =
    grouped_all c.loop-first.invariant.1 c.loop-first-test.false (omega (arith, c.loop-first.invariant.0, c.requires.2))

pub run_end-next-requires : goal.run_end-next-requires
run_end-next-requires c = let h = c.loop-first.invariant.1.within in omega arith

pub overflow_mul-first : goal.overflow_mul-first
overflow_mul-first c = let h = c.requires.1 in search rules

pub overflow_mul-number : goal.overflow_mul-number
overflow_mul-number c = let h = room (goal.at.overflow_mul-number c).In-loop-first in search rules

pub put_box-requires : goal.put_box-requires
put_box-requires c = room (goal.at.put_box-requires c).In-loop-first

pub overflow_add-number : goal.overflow_add-number
overflow_add-number c = let h = room (goal.at.overflow_add-number c).In-loop-first in search rules

pub shape_of-groups : goal.shape_of-groups
shape_of-groups c = c.loop-first.invariant.0
