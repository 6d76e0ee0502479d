-- `outline_checks::curve_checks::first_beyond` meets its contract. The loop's invariant: the search from `from` on comes to the search from `i` on.
use mathlib.Core.Path.{◌≡◌}
use Prim.Native.Nat.{◌-◌}
use Rattle.outline.specs.Faults.{first_beyond}
use Rattle.outline_checks.proofs.curve_checks.first_beyond.Given as goal

abbrev pub invariant-loop-i : goal.invariant-loop-i
invariant-loop-i l = first_beyond l.ns (l.end - l.from) l.from ≡ first_beyond l.ns (l.end - l.i) l.i
