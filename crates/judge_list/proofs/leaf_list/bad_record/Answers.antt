-- `judge_list::leaf_list::bad_record` meets its contract: the call for each m is the one at m.
use Rattle.judge_list.proofs.Pieces.{eight_left}
use Rattle.judge_list.proofs.leaf_list.bad_record.Goals as goal

pub first_bad-requires : goal.first_bad-requires
first_bad-requires c = rw c.in-1.is at c.requires

pub first_bad-requires-in-2 : goal.first_bad-requires-in-2
first_bad-requires-in-2 c = rw c.in-2.is at c.requires

pub first_bad-requires-in-3 : goal.first_bad-requires-in-3
first_bad-requires-in-3 c = rw c.in-3.is at c.requires

pub first_bad-requires-in-4 : goal.first_bad-requires-in-4
first_bad-requires-in-4 c = rw c.in-4.is at c.requires

pub first_bad-requires-in-5 : goal.first_bad-requires-in-5
first_bad-requires-in-5 c = rw c.in-5.is at c.requires

pub first_bad-requires-in-6 : goal.first_bad-requires-in-6
first_bad-requires-in-6 c = rw c.in-6.is at c.requires

pub first_bad-requires-in-7 : goal.first_bad-requires-in-7
first_bad-requires-in-7 c = rw c.in-7.is at c.requires

pub first_bad-requires-in_default : goal.first_bad-requires-in_default
first_bad-requires-in_default c = rw (eight_left c.requires.0 c.in_default.in_default-own.rest) at c.requires

pub returns-in-1 : goal.returns-in-1
returns-in-1 c = rw c.in-1.is c.first_bad.ensures

pub returns-in-2 : goal.returns-in-2
returns-in-2 c = rw c.in-2.is c.first_bad-in-2.ensures

pub returns-in-3 : goal.returns-in-3
returns-in-3 c = rw c.in-3.is c.first_bad-in-3.ensures

pub returns-in-4 : goal.returns-in-4
returns-in-4 c = rw c.in-4.is c.first_bad-in-4.ensures

pub returns-in-5 : goal.returns-in-5
returns-in-5 c = rw c.in-5.is c.first_bad-in-5.ensures

pub returns-in-6 : goal.returns-in-6
returns-in-6 c = rw c.in-6.is c.first_bad-in-6.ensures

pub returns-in-7 : goal.returns-in-7
returns-in-7 c = rw c.in-7.is c.first_bad-in-7.ensures

pub returns-in_default : goal.returns-in_default
returns-in_default c = rw (eight_left c.requires.0 c.in_default.in_default-own.rest) c.first_bad-in_default.ensures
