-- `outline_binary64::reading::number_at` meets its contract: a coordinate is near.
use mathlib.Core.Path.{sym, ◌∙◌}
use lib.ListN.{get_or}
use lib.Ieee.{nan}
use Rattle.outline_binary64.proofs.Numbers.{whole_at, near_at, near_number_is, kept}
use Rattle.outline_binary64.proofs.reading.number_at.Goals as goal

pub near_number-requires : goal.near_number-requires
near_number-requires c =
    near_at c.args.xs.now c.args.i c.requires.0 ∙ c.requires.1

pub returns : goal.returns
returns c =
    let xs = c.args.xs.now in
    let near = near_at xs c.args.i c.requires.0 ∙ c.requires.1 in
    kept _ c.near_number.result
    (c.near_number.ensures ∙ near_number_is (get_or xs c.args.i nan) near ∙ sym (whole_at xs c.args.i c.requires.0)) c.requires.1
