-- The boxes at all break points, by the most that lows and highs can be apart.
use mathlib.Core.Path.{refl, sym, ◌∙◌, ap}
use mathlib.Core.Bool.{not}
use lib.Dec.{lit≤}
use borrow.Author.Rules.{rules}
use Rattle.integers.proofs.Machine.{flag! }
use Rattle.bound_coordinate.proofs.Coordinates.{bounded}
use Rattle.bound_tolerance.proofs.SpreadLaws.{unit_is, unit_some, rounding_asked}
use Rattle.bound_tolerance.proofs.ToleranceLaws.{more_fits, more_small}
use Rattle.bound_tolerance_higher.proofs.is_narrow.Goals as goal

pub whole_units-width-requires : goal.whole_units-width-requires
whole_units-width-requires c = let p = c.requires.0 in rw c.most.ensures (rounding_asked 625 tt p.shallow p.most)

pub whole_units-height-requires : goal.whole_units-height-requires
whole_units-height-requires c = let p = c.requires.1 in rw c.most-2.ensures (rounding_asked 625 tt p.shallow p.most)

pub returns : goal.returns
returns c =
    let we = rw c.most.ensures at c.whole_units-width.ensures in
    let he = rw c.most-2.ensures at c.whole_units-height.ensures in
    ap not (c.is_longer.ensures ∙ sym (flag! refl (search (we, he, c.ranges.square, bounded) depth 40) tt))

pub overflow_sub-more : goal.overflow_sub-more
overflow_sub-more c = rw (unit_is 625 tt c.requires.0.shallow) (unit_some 625 c.args.shift (lit≤ tt))

pub most-requires : goal.most-requires
most-requires c = (c.requires.0.gaps, c.requires.0.sizes)

pub most-requires-2 : goal.most-requires-2
most-requires-2 c = let p = c.requires.1 in (p.gaps, p.sizes)

pub overflow_add-width : goal.overflow_add-width
overflow_add-width c = more_fits c.whole_units-width.ensures

pub overflow_add-height : goal.overflow_add-height
overflow_add-height c = more_fits c.whole_units-height.ensures

pub is_longer-requires : goal.is_longer-requires
is_longer-requires c = search (rules, more_small)
