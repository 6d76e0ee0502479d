-- Foretelling for programs in other languages.
use mir.Facts.{to_z-of_z}
use Rattle.contour.specs.Foretellings.{foretold_answer_of}
use Rattle.contour.proofs.InNumbers.{numbers_beside}
use Rattle.contour.proofs.contour_foretell.Goals as goal

pub returns : goal.returns
returns c =
    let e = rw (to_z-of_z c.ranges.tolerance) at c.foretell-foretold.ensures in
    let both = numbers_beside foretold_answer_of c.foretold_in_numbers.ensures (e.value, e.depths_after) in
    record { value = both.0; depths_after = both.1 }
