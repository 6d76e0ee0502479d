-- What banding promises, from its contract alone.
use mir.Facts.{to_z-of_z}
use Rattle.promises.proofs.operations.band.Goals as goal

pub returns : goal.returns
returns c =
    let both = rw (to_z-of_z c.ranges.tolerance) at c.band.ensures in
    record { value = both.value; records_after = both.records_after }
