-- The low at a break point: the number that is divided, rounded down.
use Prim.Native.Nat.{◌+◌, ◌*◌}
use Rattle.bound_coordinate.specs.HigherTerms.{higher_low}
use Rattle.bound_coordinate.proofs.Numerators.{higher_dividend, higher_low_raised, higher_low_computed}
use Rattle.bound_coordinate_higher.proofs.low_at.Goals as goal

pub rounded_down-requires : goal.rounded_down-requires
rounded_down-requires c =
    higher_low_raised (higher_dividend c.args.rows.now (3 * c.args.i + 1) c.requires.0 c.requires.1) c.numerator-n.ensures

pub returns : goal.returns
unfolding higher_low
returns c =
    higher_low_computed (higher_dividend c.args.rows.now (3 * c.args.i + 1) c.requires.0 c.requires.1)
    c.numerator-n.ensures c.rounded_down.ensures
