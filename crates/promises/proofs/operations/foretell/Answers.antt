-- What foretelling promises, from its contract alone.
use mir.Facts.{to_z-of_z}
use Rattle.promises.proofs.operations.foretell.Goals as goal

pub returns : goal.returns
returns c =
    let both = rw (to_z-of_z c.ranges.tolerance) at c.foretell.ensures in
    record { value = both.value; depths_after = both.depths_after }
