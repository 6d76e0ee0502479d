-- What banding of an outline in binary64 promises to C, from its contract alone.
use mir.Facts.{to_z-of_z}
use Rattle.promises.proofs.exported.contour_binary64_band.Goals as goal

pub returns : goal.returns
returns c =
    let both = rw (to_z-of_z c.ranges.tolerance) at c.contour_binary64_band.ensures in
    record { value = both.value; records_after = both.records_after }
