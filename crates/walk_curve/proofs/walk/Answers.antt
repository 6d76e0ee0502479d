-- The walk of a curve, by its degree.
use mir.Facts.{to_z-of_z}
use Rattle.setting.proofs.Pieces.{degree_takes}
use Rattle.walk_curve.proofs.walk.Goals as goal

pub walk_higher-requires : goal.walk_higher-requires
walk_higher-requires c =
    let h = c.if-curve-gt3.true in
    (c.requires.0, c.requires.1, h, (degree_takes c.args.curve.degree c.args.pieces.m).0 c.requires.2.takes h, c.requires.2.units h)

pub returns-then-curve-gt3 : goal.returns-then-curve-gt3
returns-then-curve-gt3 c = rw (to_z-of_z c.ranges.t) at c.walk_higher.ensures

pub returns-else-curve-gt3 : goal.returns-else-curve-gt3
returns-else-curve-gt3 c = rw (to_z-of_z c.ranges.t) at c.walk_low.ensures
