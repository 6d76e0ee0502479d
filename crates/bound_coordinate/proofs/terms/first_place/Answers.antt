-- Where the rows of a degree's first difference begin, by the degree.
use native.Mathlib.Omega.{arith}
use borrow.Author.Tests.{lt-ltb, le-ltb}
use Rattle.bound_coordinate.proofs.terms.first_place.Goals as goal

pub returns-then-degree-lt2 : goal.returns-then-degree-lt2
returns-then-degree-lt2 c = simp (le-ltb 1 c.args.degree (omega arith))

pub returns-then-degree-lt3 : goal.returns-then-degree-lt3
returns-then-degree-lt3 c = simp (lt-ltb 1 c.args.degree c.if-degree-lt2.false, lt-ltb _ _ c.if-degree-lt3.true)

pub returns : goal.returns
returns c = simp (
  lt-ltb 1 c.args.degree c.if-degree-lt2.false,
  le-ltb _ _ c.if-degree-lt3.false,
  lt-ltb c.args.degree 4 (omega arith),
)
