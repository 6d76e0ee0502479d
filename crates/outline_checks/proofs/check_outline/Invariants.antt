-- `outline_checks::check_outline` meets its contract. The loop's invariant: with `count` curves read up to index `at`, the whole list's answer is
-- what the rest of it gives, counted on. The measure is what is left of the list.
use Prim.Native.Nat.{◌-◌}
use lib.ListN.{length}
use Rattle.outline_checks.proofs.Checking.{Read}
use Rattle.outline_checks.proofs.check_outline.Given as goal

abbrev pub invariant-loop-at : goal.invariant-loop-at
invariant-loop-at l = Read l.ns l.most l.m l.at l.count

abbrev pub decreases-loop-at : goal.decreases-loop-at
decreases-loop-at l = length l.ns - l.at
