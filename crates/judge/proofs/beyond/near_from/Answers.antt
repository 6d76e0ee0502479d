-- `judge::beyond::near_from` meets its contract. The loop's invariant: the records from `from` to `at` are apart from the point.
use mathlib.Core.Path.{sym, ◌∙◌}
use Prim.Native.Nat.{◌+◌, ◌≤◌}
use native.Mathlib.Omega.{arith}
use borrow.Author.Rules.{rules}
use lib.ListN.{length}
use mir.Syntax.{w32}
use mir.Facts.{to_z-of_z}
use Rattle.integers.proofs.Ranges.{stored}
use Rattle.setting.specs.Setting.{lists, record_length}
use Rattle.boxes.proofs.Records.{record_left}
use Rattle.setting.proofs.Pieces.{record_length_is}
use Rattle.judge.specs.Inside.{ApartTo}
use Rattle.judge.proofs.Apart.{apart_here, apart_more, apart_all}
use Rattle.judge.proofs.beyond.near_from.Goals as goal
use Rattle.judge.proofs.beyond.near_from.Goals.{At-loop-at, In-loop-at, Else-not-record_apart}

-- one more record is there
more : (c : In-loop-at)
    → c.loop-at.at + record_length (lists c.args.m) ≤ length c.args.leaves.now
more c =
    let e = c.requires.1 in
    omega (arith, record_left (record_length (lists c.args.m)) c.loop-at.invariant.whole e.whole c.loop-at-test.true, e.within)

-- what the invariant says of the point as it was passed
passed : (l : At-loop-at) → let a = l.args in ApartTo (lists a.m) a.x a.y a.leaves.now a.from l.loop-at.at
passed l = rw (to_z-of_z l.ranges.x, to_z-of_z l.ranges.y) at l.loop-at.invariant

-- one more record that the point is apart from
farther : (c : Else-not-record_apart)
    → let a = c.args in
    ApartTo (lists a.m) (stored w32 a.x) (stored w32 a.y) a.leaves.now a.from (c.loop-at.at + record_length (lists a.m))
farther c = apart_more c.loop-at.invariant (sym c.record_apart.ensures ∙ c.if-not-record_apart.false)

pub loop-at-preserved : goal.loop-at-preserved
loop-at-preserved c = rw (record_length_is c.args.m) (farther (goal.at.loop-at-preserved c).Else-not-record_apart)

pub overflow_mul-record_length : goal.overflow_mul-record_length
overflow_mul-record_length c = let h = c.requires.0.most in search rules

pub overflow_add-record_length : goal.overflow_add-record_length
overflow_add-record_length c = let h = c.requires.0.most in search rules

pub loop-at-init : goal.loop-at-init
loop-at-init c = apart_here c.requires.2

pub record_apart-requires : goal.record_apart-requires
record_apart-requires c = let h = more c in let f = c.loop-at.invariant.after in omega arith

pub returns-then-not-record_apart : goal.returns-then-not-record_apart
returns-then-not-record_apart c = (c.loop-at-test.true, passed (goal.at.returns-then-not-record_apart c).At-loop-at)

pub loop-at-smaller : goal.loop-at-smaller
loop-at-smaller c = omega arith

pub returns : goal.returns
returns c = apart_all (passed (goal.at.returns c).At-loop-at) c.loop-at-test.false

pub overflow_add-at : goal.overflow_add-at
overflow_add-at c = let h = more (goal.at.overflow_add-at c).In-loop-at in search rules
