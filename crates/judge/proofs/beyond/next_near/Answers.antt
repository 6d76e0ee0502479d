-- `judge::beyond::next_near` meets its contract: the call for each m is the one at m.
use mir.Facts.{to_z-of_z}
use Rattle.judge_list.proofs.Pieces.{eight_left}
use Rattle.judge.proofs.beyond.next_near.Goals as goal

pub near_from-requires : goal.near_from-requires
near_from-requires c = rw c.in-1.is at c.requires

pub near_from-requires-in-2 : goal.near_from-requires-in-2
near_from-requires-in-2 c = rw c.in-2.is at c.requires

pub near_from-requires-in-3 : goal.near_from-requires-in-3
near_from-requires-in-3 c = rw c.in-3.is at c.requires

pub near_from-requires-in-4 : goal.near_from-requires-in-4
near_from-requires-in-4 c = rw c.in-4.is at c.requires

pub near_from-requires-in-5 : goal.near_from-requires-in-5
near_from-requires-in-5 c = rw c.in-5.is at c.requires

pub near_from-requires-in-6 : goal.near_from-requires-in-6
near_from-requires-in-6 c = rw c.in-6.is at c.requires

pub near_from-requires-in-7 : goal.near_from-requires-in-7
near_from-requires-in-7 c = rw c.in-7.is at c.requires

pub near_from-requires-in_default : goal.near_from-requires-in_default
near_from-requires-in_default c = rw (eight_left c.requires.0 c.in_default.in_default-own.rest) at c.requires

pub returns-in-1 : goal.returns-in-1
returns-in-1 c = let f = c.ranges in rw c.in-1.is (rw (to_z-of_z f.x, to_z-of_z f.y) at c.near_from.ensures)

pub returns-in-2 : goal.returns-in-2
returns-in-2 c = let f = c.ranges in rw c.in-2.is (rw (to_z-of_z f.x, to_z-of_z f.y) at c.near_from-in-2.ensures)

pub returns-in-3 : goal.returns-in-3
returns-in-3 c = let f = c.ranges in rw c.in-3.is (rw (to_z-of_z f.x, to_z-of_z f.y) at c.near_from-in-3.ensures)

pub returns-in-4 : goal.returns-in-4
returns-in-4 c = let f = c.ranges in rw c.in-4.is (rw (to_z-of_z f.x, to_z-of_z f.y) at c.near_from-in-4.ensures)

pub returns-in-5 : goal.returns-in-5
returns-in-5 c = let f = c.ranges in rw c.in-5.is (rw (to_z-of_z f.x, to_z-of_z f.y) at c.near_from-in-5.ensures)

pub returns-in-6 : goal.returns-in-6
returns-in-6 c = let f = c.ranges in rw c.in-6.is (rw (to_z-of_z f.x, to_z-of_z f.y) at c.near_from-in-6.ensures)

pub returns-in-7 : goal.returns-in-7
returns-in-7 c = let f = c.ranges in rw c.in-7.is (rw (to_z-of_z f.x, to_z-of_z f.y) at c.near_from-in-7.ensures)

pub returns-in_default : goal.returns-in_default
returns-in_default c = let f = c.ranges in rw (eight_left c.requires.0 c.in_default.in_default-own.rest)
    (rw (to_z-of_z f.x, to_z-of_z f.y) at c.near_from-in_default.ensures)
