-- `judge_runs::boxing::box_runs` meets its contract. The loop's invariant: the first `count` boxes are round the runs before `at`.
use mathlib.Core.Path.{◌∙◌, ap}
use Prim.Native.Nat.{◌+◌, ◌*◌, ◌≤◌}
use native.Mathlib.Omega.{arith}
use borrow.Author.Rules.{rules}
use lib.ListN.{length}
use lib.Seq.{length-sets}
use Rattle.setting.specs.Setting.{lists}
use Rattle.boxes.specs.Ranges.{numbers_of}
use Rattle.judge_runs.proofs.Runs.{room_left, boxed_none, one_left, next_whole, boxed_more, boxed_all}
use Rattle.judge_runs.proofs.boxing.box_runs.Goals as goal
use Rattle.judge_runs.proofs.boxing.box_runs.Goals.{In-loop-at}

pub loop-at-init : goal.loop-at-init
loop-at-init c = (search rules, boxed_none (lists c.args.m) c.args.leaves.now c.args.run c.args.boxes.now)

-- there is room for one more box
room : (c : In-loop-at) → 4 * c.loop-at.count + 4 ≤ length c.loop-at.boxes
room c =
    room_left (one_left c.requires.1 c.loop-at.invariant.1 c.loop-at-test.true) c.loop-at.invariant.0 c.requires.2

pub round_run-requires : goal.round_run-requires
round_run-requires c =
    let e = c.run_end-to.ensures in (
      c.requires.0,
      record { whole = next_whole c.requires.1 c.loop-at.invariant.1 c.loop-at-test.true e; within = e.inside },
      c.loop-at.invariant.1.whole,
    )

pub loop-at-smaller : goal.loop-at-smaller
loop-at-smaller c =
    let t = c.loop-at-test.true in
    let h = c.run_end-to.ensures.onward t c.requires.1.some in
    omega arith

pub loop-at-preserved : goal.loop-at-preserved
loop-at-preserved c = (
  ap length c.put_box.ensures ∙ length-sets c.loop-at.boxes (4 * c.loop-at.count) (numbers_of c.round_run.result) ∙ c.loop-at.invariant.0,
  boxed_more c.requires.1 c.loop-at.invariant.1 c.loop-at-test.true c.run_end-to.ensures c.round_run.result
      c.round_run.ensures c.put_box.ensures (room (goal.at.loop-at-preserved c).In-loop-at),
)

pub returns : goal.returns
returns c =
    boxed_all c.requires.1 c.loop-at.invariant.1 c.loop-at-test.false (omega (arith, c.loop-at.invariant.0, c.requires.2))

pub overflow_mul-count : goal.overflow_mul-count
overflow_mul-count c = let h = room (goal.at.overflow_mul-count c).In-loop-at in search rules

pub put_box-requires : goal.put_box-requires
put_box-requires c = room (goal.at.put_box-requires c).In-loop-at

pub overflow_add-count : goal.overflow_add-count
overflow_add-count c = let h = room (goal.at.overflow_add-count c).In-loop-at in search rules

pub shape_of-boxes : goal.shape_of-boxes
shape_of-boxes c = c.loop-at.invariant.0
