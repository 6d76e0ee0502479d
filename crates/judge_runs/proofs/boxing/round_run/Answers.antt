-- `judge_runs::boxing::round_run` meets its contract. The loop's invariant: the box is round the records from `from` to `at`.
use Prim.Native.Nat.{◌+◌, ◌≤◌}
use native.Mathlib.Nat.{le_refl}
use native.Mathlib.Numerals.{add-one}
use native.Mathlib.Omega.{arith}
use borrow.Author.Rules.{rules}
use lib.ListN.{length}
use Rattle.setting.specs.Setting.{lists, record_length}
use Rattle.boxes.proofs.Records.{record_left, record_next}
use Rattle.setting.proofs.Pieces.{record_length_is}
use Rattle.judge_runs.proofs.Boxes.{around_none, around_more, around_less}
use Rattle.judge_runs.proofs.boxing.round_run.Goals as goal
use Rattle.judge_runs.proofs.boxing.round_run.Goals.{In-loop-at}

pub loop-at-init : goal.loop-at-init
loop-at-init c = (c.requires.2, around_none c.nowhere-around.result (le_refl c.args.from))

-- one more record is there
more : (c : In-loop-at)
    → c.loop-at.at + record_length (lists c.args.m) ≤ length c.args.leaves.now
more c =
    let e = c.requires.1 in
    omega (arith, record_left (record_length (lists c.args.m)) c.loop-at.invariant.0 e.whole c.loop-at-test.true, e.within)

pub loop-at-preserved : goal.loop-at-preserved
loop-at-preserved c =
    let m = c.args.m in
    let L = record_length (lists m) in
    rw (record_length_is m) (
      record_next L c.loop-at.at c.loop-at.invariant.0,
      rw (c.round_boxes-around.ensures, add-one m) (around_more c.loop-at.invariant.1 c.loop-at.invariant.0),
    )

pub returns : goal.returns
returns c = around_less c.loop-at.invariant.1 c.loop-at-test.false

pub overflow_mul-record_length : goal.overflow_mul-record_length
overflow_mul-record_length c = let h = c.requires.0.most in search rules

pub overflow_add-record_length : goal.overflow_add-record_length
overflow_add-record_length c = let h = c.requires.0.most in search rules

pub overflow_add-at : goal.overflow_add-at
overflow_add-at c = let h = more c in search rules

pub overflow_add-m : goal.overflow_add-m
overflow_add-m c = let h = more c in search rules

pub round_boxes-around-requires : goal.round_boxes-around-requires
round_boxes-around-requires c = let h = more c in omega arith

pub loop-at-smaller : goal.loop-at-smaller
loop-at-smaller c = omega (arith, c.loop-at-test.true)

-- past the last record
pub returns-2 : goal.returns-2
returns-2 c =
    let n = around_more c.loop-at.invariant.1 c.loop-at.invariant.0 in
    rw (c.round_boxes-around.ensures, add-one c.args.m) (around_less n (omega arith))
