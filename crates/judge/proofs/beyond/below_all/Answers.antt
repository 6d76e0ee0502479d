-- `judge::beyond::below_all` meets its contract. The loop's invariant: the first i numbers pass.
use Prim.Native.Nat.{suc}
use native.Mathlib.Omega.{arith}
use lib.Signed.{le_z, lt_z}
use Rattle.judge.proofs.Passing.{pass_none, turned, Reading, reading, all_read}
use Rattle.judge.proofs.beyond.below_all.Goals as goal
use Rattle.judge.proofs.beyond.below_all.Goals.{After-low-1}

turn : (c : After-low-1)
    → let a = c.args in Reading lt_z (λ y x. le_z x y) a.z a.leaves.now a.at (suc a.m) c.loop-i.i
turn c =
    reading lt_z c.ranges.z (λ y x. le_z x y) (λ y x. turned x y) c.loop-i.invariant (omega (arith, c.loop-i-test.true)) c.low-1.given

pub loop-i-init : goal.loop-i-init
loop-i-init c = pass_none _ _ _ _

pub returns-then-low-z : goal.returns-then-low-z
returns-then-low-z c = (turn (goal.at.returns-then-low-z c).After-low-1).fails c.if-low-z.true

pub loop-i-smaller : goal.loop-i-smaller
loop-i-smaller c = omega arith

pub loop-i-preserved : goal.loop-i-preserved
loop-i-preserved c = (turn (goal.at.loop-i-preserved c).After-low-1).passes c.if-low-z.false

pub returns : goal.returns
returns c = all_read lt_z c.ranges.z c.loop-i.invariant (omega (arith, c.loop-i-test.false))
