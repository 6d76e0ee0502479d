-- The larger of the two coordinates'.
use Rattle.std.proofs.Common.{rules}
use Rattle.curve_nodes.specs.Differences.{largest}
use Rattle.band_foretell.proofs.BendingLaws.{root_values}
use Rattle.band_foretell.proofs.bending.largest_of.Goals as goal

pub bend-requires : goal.bend-requires
bend-requires c = let p = c.requires in (root_values c.args.curve.degree p.x, p.least, p.most)

pub bend-requires-2 : goal.bend-requires-2
bend-requires-2 c = let p = c.requires in (root_values c.args.curve.degree p.y, p.least, p.most)

pub returns : goal.returns
unfolding largest
returns c = search rules
