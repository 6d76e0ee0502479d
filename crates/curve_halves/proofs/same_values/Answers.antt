-- A copy of the values, one by one, has those values.
use mathlib.Core.Path.{◌∙◌}
use mir.Syntax.{w64}
use borrow.Kind.Array.{e_s_int, good_length}
use Rattle.curve_halves.proofs.Halving.{coordinates, are! }
use Rattle.curve_halves.proofs.Values.{padded_whole}
use Rattle.curve_halves.proofs.same_values.Goals as goal

pub returns : goal.returns
returns c =
    are! (search (coordinates, c.requires) depth 40) tt ∙ padded_whole c.args.c (good_length (e_s_int w64) 6 c.args.c _ c.well_formed.0)
