-- The gaps of degree 4 or 5.
use mathlib.Core.Path.{◌≡◌, ◌∙◌, ap}
use native.Mathlib.Omega.{arith}
use Rattle.bound_pieces.specs.Inside.{gaps_of}
use Rattle.bound_tolerance.proofs.SpreadLaws.{quartic_is, quintic_is}
use Rattle.bound_tolerance_higher.proofs.gaps_for.Goals as goal

pub returns-then-degree-lt5 : goal.returns-then-degree-lt5
returns-then-degree-lt5 c =
    let four : 4 ≡ c.args.degree = omega arith in
    quartic_is c.requires.0 c.requires.1 ∙ ap (gaps_of c.args.pieces.m) four

pub returns-else-degree-lt5 : goal.returns-else-degree-lt5
returns-else-degree-lt5 c =
    let five : 5 ≡ c.args.degree = omega arith in
    quintic_is c.requires.0 c.requires.1 ∙ ap (gaps_of c.args.pieces.m) five
