-- `outline_binary64::checks::meets_before` meets its contract: where a curve stands before, x decides, or y where x is equal. Two f64 compare as their numbers,
-- since the later one is a coordinate.
use mathlib.Core.Path.{◌≡◌, sym, ◌∙◌, ap₂}
use mathlib.Core.Bool.{true}
use mathlib.Core.List.{List}
use Prim.Native.Nat.{ℕ, ◌+◌, ◌-◌, ◌<◌}
use native.Mathlib.Omega.{arith}
use lib.ListN.{length, get_or}
use lib.Ieee.{Float, nan, eq}
use borrow.Author.Tests.{le-ltb}
use Rattle.integers.specs.Entry.{entry}
use Rattle.integers.specs.Equal.{equal}
use Rattle.outline.specs.Faults.{coordinate_fine}
use Rattle.outline_binary64.specs.Lists.{wholes}
use Rattle.outline_binary64.proofs.Numbers.{whole_at, near_at, compares}
use Rattle.outline_binary64.proofs.checks.meets_before.Goals as goal

-- two numbers of a list, the second a coordinate
compared : (xs : List Float) (i j : ℕ) → i < length xs → j < length xs → coordinate_fine (entry (wholes xs) j) ≡ true
    → eq (get_or xs i nan) (get_or xs j nan) ≡ equal (entry (wholes xs) i) (entry (wholes xs) j)
compared xs i j h k fine =
    compares (get_or xs i nan) (get_or xs j nan) (near_at xs j k ∙ fine) ∙ ap₂ equal (sym (whole_at xs i h)) (sym (whole_at xs j k))

pub returns-then-xs-at : goal.returns-then-xs-at
returns-then-xs-at c =
    let xs = c.args.xs.now in
    let at = c.args.at in
    compared xs (at - 1) (at + 2) (omega (arith, c.requires.0)) c.requires.0 c.requires.2
    ∙ rw (le-ltb at 2 c.if-at-lt2.false, sym (compared xs (at - 2) (at + 1) (omega (arith, c.requires.0)) (omega (arith, c.requires.0)) c.requires.1) ∙ c.if-xs-at.true)

pub returns-else-xs-at : goal.returns-else-xs-at
returns-else-xs-at c =
    let xs = c.args.xs.now in
    let at = c.args.at in
    rw (le-ltb at 2 c.if-at-lt2.false, sym (compared xs (at - 2) (at + 1) (omega (arith, c.requires.0)) (omega (arith, c.requires.0)) c.requires.1) ∙ c.if-xs-at.false) c.if-xs-at.false
