-- The box at an end, by two gaps and two differences.
use mathlib.Core.Path.{refl, sym, ◌∙◌}
use native.Mathlib.Omega.{arith}
use lib.Dec.{lit≤}
use borrow.Author.Rules.{rules}
use Rattle.integers.proofs.Machine.{flag! }
use Rattle.bound_coordinate.proofs.Coordinates.{bounded}
use Rattle.bound_tolerance.proofs.SpreadLaws.{unit_is, unit_some, rounding_asked, product_under}
use Rattle.bound_tolerance.proofs.ToleranceLaws.{side_small}
use Rattle.bound_tolerance_higher.proofs.is_wide_at.Goals as goal

pub whole_units-width-requires : goal.whole_units-width-requires
whole_units-width-requires c = let p = c.requires.0 in rounding_asked 625 tt p.shallow p.most

pub whole_units-height-requires : goal.whole_units-height-requires
whole_units-height-requires c = let p = c.requires.1 in rounding_asked 625 tt p.shallow p.most

pub returns : goal.returns
returns c =
    c.is_longer.ensures ∙ sym (flag! refl (search (c.whole_units-width.ensures, c.whole_units-height.ensures, c.ranges.square, bounded) depth 40) tt)

pub overflow_sub-more : goal.overflow_sub-more
overflow_sub-more c = rw (unit_is 625 tt c.requires.0.shallow) (unit_some 625 c.args.shift (lit≤ tt))

pub overflow_mul-first : goal.overflow_mul-first
overflow_mul-first c = omega (arith, product_under c.requires.0.gaps.first (c.requires.0.sizes.under 0))

pub overflow_mul-second : goal.overflow_mul-second
overflow_mul-second c = omega (arith, product_under c.requires.0.gaps.second (c.requires.0.sizes.under 1))

pub overflow_add-first : goal.overflow_add-first
overflow_add-first c = omega (arith, product_under c.requires.0.gaps.first (c.requires.0.sizes.under 0), product_under c.requires.0.gaps.second (c.requires.0.sizes.under 1))

pub overflow_mul-first-2 : goal.overflow_mul-first-2
overflow_mul-first-2 c = omega (arith, product_under c.requires.1.gaps.first (c.requires.1.sizes.under 0))

pub overflow_mul-second-2 : goal.overflow_mul-second-2
overflow_mul-second-2 c = omega (arith, product_under c.requires.1.gaps.second (c.requires.1.sizes.under 1))

pub overflow_add-first-2 : goal.overflow_add-first-2
overflow_add-first-2 c = omega (arith, product_under c.requires.1.gaps.first (c.requires.1.sizes.under 0), product_under c.requires.1.gaps.second (c.requires.1.sizes.under 1))

pub is_longer-requires : goal.is_longer-requires
is_longer-requires c = search (rules, side_small)
