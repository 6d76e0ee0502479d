-- The numbers of a box compared: all at once, or one after the other.
use mathlib.Core.Path.{sym, ◌∙◌}
use mir.Facts.{to_z-of_z}
use Rattle.band_comparing.proofs.ReachLaws.{reach_there}
use Rattle.band_comparing.proofs.reaching.reach_box.Goals as goal

pub returns-then-are_there : goal.returns-then-are_there
returns-then-are_there c =
    let a = c.args in
    reach_there a.given.now a.reach a.at a.a a.b a.c a.d
    (rw (to_z-of_z c.ranges.a, to_z-of_z c.ranges.b, to_z-of_z c.ranges.c, to_z-of_z c.ranges.d) at (sym c.are_there.ensures ∙ c.if-are_there.true))

pub returns : goal.returns
returns c =
    rw (to_z-of_z c.ranges.a, to_z-of_z c.ranges.b, to_z-of_z c.ranges.c, to_z-of_z c.ranges.d) at c.reach_each.ensures
