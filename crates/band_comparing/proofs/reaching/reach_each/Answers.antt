-- Four numbers compared, one after the other.
use Prim.Native.Nat.{◌≤◌}
use lib.ListN.{length}
use mir.Facts.{to_z-of_z}
use Rattle.band_comparing.proofs.ReachLaws.{number_under, reach_four}
use Rattle.band_comparing.proofs.reaching.reach_each.Goals as goal
use Rattle.band_comparing.proofs.reaching.reach_each.Goals.{After-reach_number-first, After-reach_number-second}

-- no number leaves more than were given
first : (c : After-reach_number-first) → c.reach_number-first.result ≤ length c.args.given.now
first c = number_under _ _ _ _ c.reach_number-first.ensures c.requires.0

second : (c : After-reach_number-second) → c.reach_number-second.result ≤ length c.args.given.now
second c = number_under _ _ _ _ c.reach_number-second.ensures (first c.before)

pub returns : goal.returns
returns c =
    let a = c.args in
    reach_four a.given.now a.reach a.at a.a a.b a.c a.d c.reach_number-first.result c.reach_number-second.result
    c.reach_number-third.result c.reach_number.result (rw (to_z-of_z c.ranges.a) at c.reach_number-first.ensures)
    (rw (to_z-of_z c.ranges.b) at c.reach_number-second.ensures) (rw (to_z-of_z c.ranges.c) at c.reach_number-third.ensures)
    (rw (to_z-of_z c.ranges.d) at c.reach_number.ensures)

pub reach_number-second-requires : goal.reach_number-second-requires
reach_number-second-requires c = first c

pub reach_number-third-requires : goal.reach_number-third-requires
reach_number-third-requires c = second c

pub reach_number-requires : goal.reach_number-requires
reach_number-requires c = number_under _ _ _ _ c.reach_number-third.ensures (second (goal.at.reach_number-requires c).After-reach_number-second)
