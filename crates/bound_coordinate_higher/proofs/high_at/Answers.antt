-- The high at a break point: the number that is divided, raised by one less than the divisor, rounded down.
use Prim.Native.Nat.{◌*◌}
use native.Mathlib.Nat.{le_trans}
use native.Mathlib.Omega.{arith}
use Rattle.integers.proofs.Machine.{fits! }
use Rattle.bound_coordinate.specs.HigherTerms.{higher_high}
use Rattle.bound_coordinate.proofs.Coordinates.{bounded, pieces}
use Rattle.bound_coordinate.proofs.Numerators.{less_fits, higher_dividend, higher_raised_fits, higher_high_raised, higher_high_computed}
use Rattle.bound_coordinate_higher.proofs.high_at.Goals as goal

pub overflow_sub-more : goal.overflow_sub-more
overflow_sub-more c = let h = c.requires.0 in less_fits (le_trans h.most (omega arith)) (le_trans h.shallow (omega arith))

pub overflow_add-n : goal.overflow_add-n
overflow_add-n c =
    higher_raised_fits (higher_dividend c.args.rows.now (3 * c.args.i) c.requires.0 c.requires.1) c.numerator-n.ensures

pub rounded_down-requires : goal.rounded_down-requires
rounded_down-requires c =
    higher_high_raised (higher_dividend c.args.rows.now (3 * c.args.i) c.requires.0 c.requires.1) c.numerator-n.ensures

pub returns : goal.returns
unfolding higher_high
returns c =
    higher_high_computed (higher_dividend c.args.rows.now (3 * c.args.i) c.requires.0 c.requires.1)
    c.numerator-n.ensures c.rounded_down.ensures

pub overflow_mul-more : goal.overflow_mul-more
overflow_mul-more c = fits! (search (pieces c.requires.0.most, bounded) depth 40) tt
