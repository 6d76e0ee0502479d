-- Where the rows of a degree's second difference begin, by the degree.
use native.Mathlib.Omega.{arith}
use borrow.Author.Tests.{lt-ltb, le-ltb}
use Rattle.bound_coordinate.proofs.terms.second_place.Goals as goal

pub returns-then-degree-lt3 : goal.returns-then-degree-lt3
returns-then-degree-lt3 c = simp (le-ltb 2 c.args.degree (omega arith))

pub returns-else-degree-lt3 : goal.returns-else-degree-lt3
returns-else-degree-lt3 c = simp (
  lt-ltb 2 c.args.degree c.if-degree-lt3.false,
  le-ltb _ _ c.if-degree-lt3.false,
  lt-ltb c.args.degree 4 (omega arith),
)
