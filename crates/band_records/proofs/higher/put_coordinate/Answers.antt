-- The low and the high of one coordinate at every break point: each fits 32 bits. The loop's invariant: those before i stand in their places.
use mathlib.Core.Path.{◌≡◌, refl, ◌∙◌, ap}
use Prim.Native.Nat.{suc}
use native.Mathlib.Omega.{arith}
use lib.ListN.{length, length-set}
use Rattle.integers.proofs.Machine.{fits!, is! }
use Rattle.bound_coordinate.specs.HigherTerms.{higher_low, higher_high}
use Rattle.bound_coordinate.proofs.Coordinates.{bounded}
use Rattle.band_records.specs.Inside.{put_pairs_by}
use Rattle.band_records.proofs.Writing.{pairs_length, pairs_more}
use Rattle.band_records.proofs.higher.put_coordinate.Goals as goal
use Rattle.band_records.proofs.higher.put_coordinate.Goals.{At-loop-i}

pub loop-i-init : goal.loop-i-init
loop-i-init c = refl

-- ---- the loop
same : (l : At-loop-i) → length l.loop-i.records ≡ length l.args.records.now
same l =
    let a = l.args in
    ap length l.loop-i.invariant
    ∙ pairs_length a.records.now a.at (higher_low a.m a.shift a.rows.now a.z) (higher_high a.m a.shift a.rows.now a.z)
    l.loop-i.i

pub low_at-low-requires : goal.low_at-low-requires
low_at-low-requires c = (c.requires.1, omega arith)

pub high_at-high-requires : goal.high_at-high-requires
high_at-high-requires c = (c.requires.1, omega arith)

pub overflow_cast-records : goal.overflow_cast-records
overflow_cast-records c = fits! (search (c.low_at-low.ensures, bounded) depth 40) tt

pub bounds-records-at : goal.bounds-records-at
bounds-records-at c = omega (arith, same (goal.at.bounds-records-at c).At-loop-i)

pub overflow_cast-records-in-loop-i : goal.overflow_cast-records-in-loop-i
overflow_cast-records-in-loop-i c = fits! (search (c.high_at-high.ensures, bounded) depth 40) tt

pub bounds-records-at-in-loop-i : goal.bounds-records-at-in-loop-i
bounds-records-at-in-loop-i c = simp length-set (omega (arith, same (goal.at.bounds-records-at-in-loop-i c).At-loop-i))

pub loop-i-preserved : goal.loop-i-preserved
loop-i-preserved c =
    let a = c.args in
    pairs_more a.records.now a.at (higher_low a.m a.shift a.rows.now a.z) (higher_high a.m a.shift a.rows.now a.z)
    c.loop-i.i c.loop-i.invariant
    (is! (search (c.low_at-low.ensures, bounded) depth 40) tt)
    (is! (search (c.high_at-high.ensures, bounded) depth 40) tt)

pub shape_of-records : goal.shape_of-records
shape_of-records c = same (goal.at.shape_of-records c).At-loop-i

pub returns : goal.returns
returns c =
    let a = c.args in
    let e : c.loop-i.i ≡ suc a.m = omega arith in
    c.loop-i.invariant ∙ ap (put_pairs_by a.records.now a.at a.m a.shift a.rows.now a.z) e

pub overflow_mul-records : goal.overflow_mul-records
overflow_mul-records c = omega arith

pub overflow_add-records : goal.overflow_add-records
overflow_add-records c = omega arith

pub offset_bounds-records-at : goal.offset_bounds-records-at
offset_bounds-records-at c = omega arith

pub overflow_mul-i : goal.overflow_mul-i
overflow_mul-i c = omega arith

pub overflow_add-at : goal.overflow_add-at
overflow_add-at c = omega arith

pub overflow_add-at-in-loop-i : goal.overflow_add-at-in-loop-i
overflow_add-at-in-loop-i c = omega arith

pub offset_bounds-records-at-in-loop-i : goal.offset_bounds-records-at-in-loop-i
offset_bounds-records-at-in-loop-i c = omega arith

pub overflow_add-i-end : goal.overflow_add-i-end
overflow_add-i-end c = omega arith
