-- The diagonal of the box at a break point against a square.
use mathlib.Core.Path.{◌∙◌}
use borrow.Author.Rules.{rules}
use Rattle.bound_tolerance.proofs.ToleranceLaws.{apart_fits, apart_small, longer_held}
use Rattle.bound_tolerance.proofs.is_wide.Goals as goal

pub returns : goal.returns
returns c = c.is_longer.ensures ∙ search (rules, longer_held)

pub overflow_sub-x_high : goal.overflow_sub-x_high
overflow_sub-x_high c = search (rules, apart_fits)

pub overflow_sub-y_high : goal.overflow_sub-y_high
overflow_sub-y_high c = search (rules, apart_fits)

pub is_longer-requires : goal.is_longer-requires
is_longer-requires c = search (rules, apart_small)
