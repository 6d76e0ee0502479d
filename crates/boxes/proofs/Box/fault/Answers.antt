-- `boxes::Box::fault` meets its contract: both sides are fine, or the numbers are looked at one by one.
use mathlib.Core.Path.{sym, ◌∙◌}
use mir.Facts.{to_z-of_z}
use Rattle.integers.proofs.Between.{number_fits}
use Rattle.boxes.proofs.Faults.{sides_fine_law}
use Rattle.boxes.proofs.Box.fault.Goals as goal

pub returns-then-side_fine-2 : goal.returns-then-side_fine-2
returns-then-side_fine-2 c =
    let f = c.struct_told-4-1.given in
    let x = rw (to_z-of_z (number_fits _ f.0.1), to_z-of_z (number_fits _ f.1.0.1)) at
    (sym c.side_fine.ensures ∙ c.if-side_fine.true) in
    let y = rw (to_z-of_z (number_fits _ f.1.1.0.1), to_z-of_z (number_fits _ f.1.1.1.0.1)) at
    (sym c.side_fine-then-side_fine.ensures ∙ c.if-side_fine-2.true) in
    sides_fine_law c.args.self x y

pub returns : goal.returns
returns c =
    let f = c.struct_told-4-1.given in
    rw (
      to_z-of_z (number_fits _ f.0.1),
      to_z-of_z (number_fits _ f.1.0.1),
      to_z-of_z (number_fits _ f.1.1.0.1),
      to_z-of_z (number_fits _ f.1.1.1.0.1),
    ) at c.first_bad.ensures
