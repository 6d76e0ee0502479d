-- `binary64::near_number` meets its contract: with 0.0 added a number that is near can be cast.
use Rattle.std.proofs.Common.{◌∙◌, w64}
use lib.Ieee.{of_bits, to_signed}
use lib.Ieee.Casts.{to_signed_in}
use mir.ValLaws.{to_z-of_z}
use Rattle.binary64.proofs.Near.{plus_zero, casts, cast_is}
use Rattle.binary64.proofs.near_number.Goals as goal

pub float_to_int-result : goal.float_to_int-result
unfolding of_bits
float_to_int-result c = casts c.args.x c.requires

pub returns : goal.returns
unfolding of_bits
returns c =
    let x = c.args.x in
    to_z-of_z w64 (to_signed 63 (plus_zero x)) (record { sfits = to_signed_in 63 (plus_zero x) }) ∙ cast_is x c.requires
