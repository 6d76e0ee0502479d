-- Check 25: the place of the first number that is out of range.
use mathlib.Core.Path.{◌≡◌}
use mathlib.Core.Bool.{true, false}
use Rattle.std.proofs.Common.{rules}
use borrow.Author.Tests.{tests}
use Rattle.std.proofs.lemmas.Iterator.{IsFirst-from_position, YieldsList-from_slice}
use Rattle.outline.proofs.Searching.{first_place}
use Rattle.outline_splines.specs.Splines.{spline_fine}
use Rattle.outline_splines.proofs.first_beyond.Goals as goal

pub returns : goal.returns
returns c =
    first_place spline_fine c.args.ns.now c.position.result
    (IsFirst-from_position _ _ c.position.result (λ z. spline_fine z ≡ false) (λ z. spline_fine z ≡ true) c.position.ensures.ran
    (YieldsList-from_slice c.args.ns.now cc) (λ x q k. search (rules, tests)) (λ x q k. search (rules, tests)))
