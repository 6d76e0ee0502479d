-- `outline_checks::curve_checks::first_beyond` meets its contract: at each index the range is tested, and past the last one nothing was found.
use mathlib.Core.Path.{◌≡◌, sym, ◌∙◌, ap}
use mathlib.Core.Bool.{Bool, true, false}
use mathlib.Core.List.{List}
use Prim.Native.Nat.{ℕ}
use lib.IntN.{ℤ}
use Rattle.std.proofs.Common.{rules}
use Rattle.integers.specs.Entry.{entry}
use Rattle.integers.proofs.First.{bad_ended, bad_here, bad_on}
use Rattle.outline.specs.Faults.{coordinate_fine}
use Rattle.outline.specs.Inside.{found_of}
use Rattle.outline_checks.proofs.curve_checks.first_beyond.Goals as goal

abbrev fine : List ℤ → ℕ → Bool
fine ns k = coordinate_fine (entry ns k)

pub returns-then-not-contains : goal.returns-then-not-contains
returns-then-not-contains c =
    let e : fine c.args.ns.now c.loop-i.i ≡ false = search rules in
    sym (ap found_of (c.loop-i.invariant ∙ bad_here (fine c.args.ns.now) c.args.end c.loop-i.i c.loop-i-test.true e))

pub loop-i-preserved : goal.loop-i-preserved
loop-i-preserved c =
    let e : fine c.args.ns.now c.loop-i.i ≡ true = search rules in
    c.loop-i.invariant ∙ bad_on (fine c.args.ns.now) c.args.end c.loop-i.i c.loop-i-test.true e

pub returns : goal.returns
returns c = sym (ap found_of (c.loop-i.invariant ∙ bad_ended (fine c.args.ns.now) c.args.end c.loop-i.i c.loop-i-test.false))
