-- `judge::beyond::above_all` meets its contract. The loop's invariant: the first i numbers pass.
use Prim.Native.Nat.{suc}
use native.Mathlib.Omega.{arith}
use lib.Signed.{le_z, lt_z}
use Rattle.judge.proofs.Passing.{pass_none, turned, Reading, reading, all_read}
use Rattle.judge.proofs.beyond.above_all.Goals as goal
use Rattle.judge.proofs.beyond.above_all.Goals.{After-high-1}

turn : (c : After-high-1)
    → let a = c.args in Reading (λ y x. lt_z x y) le_z a.z a.leaves.now a.at (suc a.m) c.loop-i.i
turn c =
    reading (λ y x. lt_z x y) c.ranges.z le_z turned c.loop-i.invariant (omega (arith, c.loop-i-test.true)) c.high-1.given

pub loop-i-init : goal.loop-i-init
loop-i-init c = pass_none _ _ _ _

pub returns-then-z-high : goal.returns-then-z-high
returns-then-z-high c = (turn (goal.at.returns-then-z-high c).After-high-1).fails c.if-z-high.true

pub loop-i-smaller : goal.loop-i-smaller
loop-i-smaller c = omega arith

pub loop-i-preserved : goal.loop-i-preserved
loop-i-preserved c = (turn (goal.at.loop-i-preserved c).After-high-1).passes c.if-z-high.false

pub returns : goal.returns
returns c = all_read (λ y x. lt_z x y) c.ranges.z c.loop-i.invariant (omega (arith, c.loop-i-test.false))
