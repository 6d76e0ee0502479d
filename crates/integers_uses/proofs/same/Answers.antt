-- `integers_uses::same` meets its contract: equal bits are equal numbers.
use mathlib.Core.Path.{◌∙◌}
use mir.Facts.{to_z-of_z}
use Rattle.integers.proofs.Ranges.{equal}
use Rattle.integers_uses.proofs.same.Goals as goal

pub returns-then-a-b : goal.returns-then-a-b
returns-then-a-b c = to_z-of_z c.ranges.a ∙ equal c.ranges.a c.ranges.b c.if-a-b.true
