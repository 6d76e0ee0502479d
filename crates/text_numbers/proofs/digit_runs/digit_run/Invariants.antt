-- `text_numbers::digit_runs::digit_run` meets its contract. The loop's invariant is `Reading`, and that no place is passed by.
use Prim.Native.Nat.{max, ◌≤◌}
use lib.ListN.{length}
use Rattle.text_numbers.proofs.Runs.{Reading}
use Rattle.text_numbers.proofs.digit_runs.digit_run.Given as goal

abbrev pub invariant-loop-i : goal.invariant-loop-i
invariant-loop-i l = Reading l.text l.at l.value l.i × (l.i ≤ max l.at (length l.text))
