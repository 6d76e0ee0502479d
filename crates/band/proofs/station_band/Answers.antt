-- Banding for the bench station: that of at most 64 curves and 128 leaves.
use mir.Facts.{to_z-of_z}
use Rattle.band.proofs.station_band.Goals as goal

pub returns : goal.returns
returns c =
    let both = rw (to_z-of_z c.ranges.tolerance) at c.band_most.ensures in
    record { value = both.value; records_after = both.records_after }
