-- `outline_binary64::checks::first_beyond` meets its contract. The loop's invariant: the search from `from` on comes to the search from `i` on.
use mathlib.Core.Path.{◌≡◌}
use Prim.Native.Nat.{◌-◌}
use Rattle.outline.specs.Faults.{first_beyond}
use Rattle.outline_binary64.specs.Lists.{wholes}
use Rattle.outline_binary64.proofs.checks.first_beyond.Given as goal

abbrev pub invariant-loop-i : goal.invariant-loop-i
invariant-loop-i l = first_beyond (wholes l.xs) (l.end - l.from) l.from ≡ first_beyond (wholes l.xs) (l.end - l.i) l.i
