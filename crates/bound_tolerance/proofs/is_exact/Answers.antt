-- Whether the corners of a degree are break points.
use mathlib.Core.Path.{◌∙◌}
use Rattle.bound_tolerance.proofs.SpreadLaws.{exact_is}
use Rattle.bound_tolerance.proofs.ToleranceLaws.{exact_below, exact_cubic}
use Rattle.bound_tolerance.proofs.is_exact.Goals as goal

pub returns-then-degree-lt3 : goal.returns-then-degree-lt3
returns-then-degree-lt3 c = let p = c.args.pieces in exact_below p.sixths p.m c.if-degree-lt3.true

pub returns : goal.returns
returns c =
    let p = c.args.pieces in
    exact_is c.requires.0 c.requires.1 ∙ exact_cubic p.sixths p.m c.if-degree-lt3.false
