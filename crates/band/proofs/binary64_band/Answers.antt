-- Banding of an outline in binary64.
use mir.Facts.{to_z-of_z}
use Rattle.band.proofs.binary64_band.Goals as goal

pub returns : goal.returns
returns c =
    let both = rw (to_z-of_z c.ranges.tolerance) at c.band_list.ensures in
    record { value = both.value; records_after = both.records_after }
