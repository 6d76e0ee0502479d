-- The depth of a curve, from its G, its M and its greatest depth.
use mathlib.Core.Path.{◌∙◌, ap}
use Rattle.setting.proofs.Depths.{deepest_most}
use Rattle.bound_rows.proofs.Rule.{gap_most}
use Rattle.band_foretell.specs.Inside.{least_depth, depth_found}
use Rattle.curve_nodes.proofs.Quarter.{largest_under}
use Rattle.band_foretell.proofs.PremiseLaws.{depth_is}
use Rattle.band_foretell.proofs.depths.depth_of.Goals as goal

pub gap_of-requires : goal.gap_of-requires
gap_of-requires c = let p = c.requires in (p.0, p.1.most, p.2)

pub least_depth-requires : goal.least_depth-requires
least_depth-requires c =
    let p = c.requires in
    rw (c.gap_of.ensures, c.largest_of.ensures, c.deepest_of.ensures)
    (gap_most c.args.m c.args.curve.degree p.0 p.1.most p.2, largest_under p.1, p.3, deepest_most c.args.curve.degree)

pub returns : goal.returns
returns c =
    let a = c.args in
    c.least_depth.ensures
    ∙ (λ i. depth_found (least_depth (c.gap_of.ensures i) (c.largest_of.ensures i) a.t (c.deepest_of.ensures i)))
    ∙ ap depth_found (depth_is a.m a.t a.curve)
