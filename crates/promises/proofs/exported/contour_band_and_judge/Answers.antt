-- What banding and judging together promise to C, from their contract alone.
use mir.Facts.{to_z-of_z}
use Rattle.promises.proofs.exported.contour_band_and_judge.Goals as goal

pub returns : goal.returns
returns c =
    let both = rw (to_z-of_z c.ranges.tolerance, to_z-of_z c.ranges.x, to_z-of_z c.ranges.y) at c.contour_band_and_judge.ensures in
    record { records_after = both.records_after; answered_in_numbers = both.answered_in_numbers }
