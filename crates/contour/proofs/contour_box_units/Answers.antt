-- A box handed out to programs in other languages.
use Rattle.contour.proofs.contour_box_units.Goals as goal

pub returns : goal.returns
returns c =
    let k = c.hand_out-handed in record { answer = k.result; handed = k.ensures; are = c.units_in_numbers.ensures }
