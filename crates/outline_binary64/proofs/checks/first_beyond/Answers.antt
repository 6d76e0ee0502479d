-- `outline_binary64::checks::first_beyond` meets its contract: at each index the number is tested, and past the last one nothing was found.
use mathlib.Core.Path.{sym, ◌∙◌, ap}
use mathlib.Core.Bool.{Bool}
use mathlib.Core.List.{List}
use Prim.Native.Nat.{ℕ}
use native.Mathlib.Omega.{arith}
use lib.Ieee.{Float}
use Rattle.outline.specs.Faults.{coordinate_fine}
use Rattle.outline.specs.Inside.{found_of}
use Rattle.integers.specs.Entry.{entry}
use Rattle.integers.proofs.First.{bad_ended, bad_here, bad_on}
use Rattle.outline_binary64.specs.Lists.{wholes}
use Rattle.outline_binary64.proofs.Numbers.{near_at}
use Rattle.outline_binary64.proofs.checks.first_beyond.Goals as goal

abbrev fine_at : List Float → ℕ → Bool
fine_at xs k = coordinate_fine (entry (wholes xs) k)

pub returns-then-not-is_near : goal.returns-then-not-is_near
returns-then-not-is_near c =
    let xs = c.args.xs.now in
    let i = c.loop-i.i in
    sym (ap found_of (c.loop-i.invariant ∙ bad_here (fine_at xs) c.args.end i c.loop-i-test.true
    (sym (c.if-not-is_near.ensures ∙ near_at xs i (omega arith)))))

pub loop-i-preserved : goal.loop-i-preserved
loop-i-preserved c =
    let xs = c.args.xs.now in
    let i = c.loop-i.i in
    c.loop-i.invariant ∙ bad_on (fine_at xs) c.args.end i c.loop-i-test.true (sym (c.if-not-is_near.ensures ∙ near_at xs i (omega arith)))

pub returns : goal.returns
returns c = sym (ap found_of (c.loop-i.invariant ∙ bad_ended (fine_at c.args.xs.now) c.args.end c.loop-i.i c.loop-i-test.false))
