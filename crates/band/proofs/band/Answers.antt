-- Banding of lists: that of at most 4,096 curves and as many leaves as these can have.
use mir.Facts.{to_z-of_z}
use Rattle.band.proofs.band.Goals as goal

pub returns : goal.returns
returns c =
    let both = rw (to_z-of_z c.ranges.tolerance) at c.band_most.ensures in
    record { value = both.value; records_after = both.records_after }
