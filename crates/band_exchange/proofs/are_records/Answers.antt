-- Two equalities of numbers, together.
use borrow.Author.Tests.{eq-eqb, ne_eqb}
use Rattle.band_exchange.proofs.are_records.Goals as goal

pub returns-then-reach-given : goal.returns-then-reach-given
returns-then-reach-given c = rw (eq-eqb _ _ c.if-reach-given.true)

pub returns-else-reach-given : goal.returns-else-reach-given
returns-else-reach-given c = rw (ne_eqb _ _ c.if-reach-given.false)
