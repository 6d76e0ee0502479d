-- The short form of a box for programs in other languages.
use Rattle.contour.proofs.contour_box_short.Goals as goal

pub returns : goal.returns
returns c =
    let k = c.shorten-shortened in record { answer = k.result; shortened = k.ensures; are = c.short_in_numbers.ensures }
