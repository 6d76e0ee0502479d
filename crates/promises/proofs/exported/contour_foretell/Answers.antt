-- What foretelling promises to C, from its contract alone.
use mir.Facts.{to_z-of_z}
use Rattle.promises.proofs.exported.contour_foretell.Goals as goal

pub returns : goal.returns
returns c =
    let both = rw (to_z-of_z c.ranges.tolerance) at c.contour_foretell.ensures in
    record { value = both.value; depths_after = both.depths_after }
