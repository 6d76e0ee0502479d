-- Banding of a B-spline.
use mir.Facts.{to_z-of_z}
use Rattle.band.proofs.spline_band.Goals as goal

pub returns : goal.returns
returns c =
    let both = rw (to_z-of_z c.ranges.tolerance) at c.band_list.ensures in
    record { value = both.value; records_after = both.records_after }
