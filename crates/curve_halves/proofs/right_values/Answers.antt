-- One coordinate of the right half: by the mirror law it is the left one, mirrored before and after.
use mathlib.Core.Path.{◌∙◌, ap}
use Rattle.curve_halves.specs.Halves.{left, reversed, padded}
use Rattle.curve_halves.proofs.Values.{right_padded}
use Rattle.curve_halves.proofs.Sizes.{each_padded, each_reversed}
use Rattle.curve_halves.proofs.right_values.Goals as goal

pub left_values-half-requires : goal.left_values-half-requires
left_values-half-requires c =
    (c.requires.0, c.requires.1, rw c.reversed-mirrored.ensures (each_padded (each_reversed c.requires.2 c.args.degree)))

pub returns : goal.returns
returns c =
    let d = c.args.degree in
    c.reversed.ensures
    ∙ ap (λ cs. padded (reversed d cs)) (c.left_values-half.ensures ∙ ap (λ cs. padded (left d cs)) c.reversed-mirrored.ensures)
    ∙ right_padded d c.requires.1 _
