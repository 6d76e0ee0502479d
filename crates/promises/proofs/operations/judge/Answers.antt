-- What judging promises, from its contract alone.
use mir.Facts.{to_z-of_z}
use Rattle.promises.proofs.operations.judge.Goals as goal

pub returns : goal.returns
returns c = rw (to_z-of_z c.ranges.x, to_z-of_z c.ranges.y) at c.judge.ensures
