-- Banding and judging together for programs in other languages.
use mir.Facts.{to_z-of_z}
use Rattle.contour.proofs.contour_band_and_judge.Goals as goal

pub returns : goal.returns
returns c =
    let r = rw (to_z-of_z c.ranges.tolerance, to_z-of_z c.ranges.x, to_z-of_z c.ranges.y) at c.band_and_judge-outcome.ensures in
    record { records_after = r.records_after; answered_in_numbers = record { outcome = c.band_and_judge-outcome.result; answered = r.answered; are = c.outcome_in_numbers.ensures } }
