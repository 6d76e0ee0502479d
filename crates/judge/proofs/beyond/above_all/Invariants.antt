-- `judge::beyond::above_all` meets its contract. The loop's invariant: the first i numbers pass.
use Prim.Native.Nat.{suc, ◌-◌}
use lib.Signed.{lt_z}
use Rattle.judge.proofs.Passing.{Passing}
use Rattle.judge.proofs.beyond.above_all.Given as goal

abbrev pub invariant-loop-i : goal.invariant-loop-i
invariant-loop-i l = Passing (λ x. lt_z x l.z) l.leaves l.at (suc l.m) l.i

abbrev pub decreases-loop-i : goal.decreases-loop-i
decreases-loop-i l = suc l.m - l.i
