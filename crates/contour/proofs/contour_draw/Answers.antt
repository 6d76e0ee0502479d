-- Drawing for programs in other languages.
use Rattle.contour.specs.Drawings.{drawing_of}
use Rattle.contour.proofs.InNumbers.{numbers_beside}
use Rattle.contour.proofs.contour_draw.Goals as goal

pub returns : goal.returns
returns c =
    let e = c.draw-drawn.ensures in
    let both = numbers_beside drawing_of c.drawing_in_numbers.ensures (e.value, e.vertices_after) in
    record { value = both.0; vertices_after = both.1 }
