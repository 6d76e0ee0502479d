-- The records of a curve's leaves, by its degree.
use mir.Facts.{to_z-of_z}
use Rattle.band_passes.proofs.leaf_writing.write_curve.Goals as goal

pub returns-then-curve-gt3 : goal.returns-then-curve-gt3
returns-then-curve-gt3 c =
    let both = rw (to_z-of_z c.ranges.t) at c.write_higher.ensures in
    record { value = both.value; records_after = both.records_after }

pub returns-else-curve-gt3 : goal.returns-else-curve-gt3
returns-else-curve-gt3 c =
    let both = rw (to_z-of_z c.ranges.t) at c.write_low.ensures in
    record { value = both.value; records_after = both.records_after }
