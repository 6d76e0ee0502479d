-- `outline_binary64::checks::check_outline` meets its contract. The loop's invariant: with `count` curves read up to index `at`, the answer to the whole numbers
-- read is what the rest of them gives, counted on; a fault is named as it is returned. The measure is what is left of the list.
use Prim.Native.Nat.{◌-◌}
use lib.ListN.{length}
use Rattle.outline_checks.proofs.Checking.{Read}
use Rattle.outline_binary64.specs.Lists.{wholes}
use Rattle.outline_binary64.proofs.checks.check_outline.Given as goal

abbrev pub invariant-loop-at : goal.invariant-loop-at
invariant-loop-at l = Read (wholes l.xs) l.most l.m l.at l.count

abbrev pub decreases-loop-at : goal.decreases-loop-at
decreases-loop-at l = length l.xs - l.at
