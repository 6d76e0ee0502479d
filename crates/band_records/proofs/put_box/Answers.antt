-- The four numbers of a box, stored one after the other: each fits 32 bits.
use native.Mathlib.Omega.{arith}
use lib.ListN.{length-set}
use Rattle.integers.proofs.Machine.{fits!, is! }
use Rattle.bound_coordinate.proofs.Coordinates.{bounded}
use Rattle.band_records.specs.Inside.{box_from}
use Rattle.band_records.proofs.Writing.{four_sets}
use Rattle.band_records.proofs.put_box.Goals as goal

pub overflow_cast-records : goal.overflow_cast-records
overflow_cast-records c = fits! (search (c.low_at-x_low.ensures, bounded) depth 40) tt

pub overflow_cast-records-2 : goal.overflow_cast-records-2
overflow_cast-records-2 c = fits! (search (c.high_at-x_high.ensures, bounded) depth 40) tt

pub bounds-records-at-2 : goal.bounds-records-at-2
bounds-records-at-2 c = simp length-set (omega arith)

pub overflow_cast-records-3 : goal.overflow_cast-records-3
overflow_cast-records-3 c = fits! (search (c.low_at-y_low.ensures, bounded) depth 40) tt

pub bounds-records-at-3 : goal.bounds-records-at-3
bounds-records-at-3 c = simp length-set (omega arith)

pub overflow_cast-records-4 : goal.overflow_cast-records-4
overflow_cast-records-4 c = fits! (search (c.high_at-y_high.ensures, bounded) depth 40) tt

pub bounds-records-at-4 : goal.bounds-records-at-4
bounds-records-at-4 c = simp length-set (omega arith)

pub returns : goal.returns
unfolding box_from
returns c =
    let a = c.args in
    four_sets a.records.now a.at
    (is! (search (c.low_at-x_low.ensures, bounded) depth 40) tt)
    (is! (search (c.high_at-x_high.ensures, bounded) depth 40) tt)
    (is! (search (c.low_at-y_low.ensures, bounded) depth 40) tt)
    (is! (search (c.high_at-y_high.ensures, bounded) depth 40) tt)
