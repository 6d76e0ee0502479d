-- Banding for programs in other languages.
use mir.Facts.{to_z-of_z}
use Rattle.contour.specs.Numbers.{band_answer_of}
use Rattle.contour.proofs.InNumbers.{numbers_beside}
use Rattle.contour.proofs.contour_band.Goals as goal

pub returns : goal.returns
returns c =
    let e = rw (to_z-of_z c.ranges.tolerance) at c.band-banded.ensures in
    let both = numbers_beside band_answer_of c.in_numbers.ensures (e.value, e.records_after) in
    record { value = both.0; records_after = both.1 }
