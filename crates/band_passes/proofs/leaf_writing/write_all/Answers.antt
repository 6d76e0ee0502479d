-- The records of every leaf of a list's curves. The loop's invariant: with k curves done, the front of the list holds their records.
use Prim.Native.Nat.{ℕ}
use mathlib.Core.Path.{◌≡◌, sym, ◌∙◌, ap, subst}
use native.Mathlib.Omega.{arith}
use mir.Facts.{to_z-of_z}
use Rattle.curve_nodes.specs.declared.Curve.{Curve}
use Rattle.band_passes.specs.declared.forms.CurveList.{CurveList}
use Rattle.band_passes.specs.Inside.{form_of, numbers_of, read_at, StandsAt}
use Rattle.band_passes.proofs.Reading.{rest_next}
use Rattle.band_passes.proofs.Filling.{filled_start, filled_length, filled_ready, filled_room, filled_on, filled_done, filled_place}
use Rattle.band_passes.proofs.leaf_writing.write_all.Goals as goal
use Rattle.band_passes.proofs.leaf_writing.write_all.Goals.{In-loop-k}

pub loop-k-init : goal.loop-k-init
loop-k-init c = rw (to_z-of_z c.ranges.t) (filled_start c.requires.1)

-- the curve at hand can be read, whatever the form
stands : (c : In-loop-k) → let a = c.args in StandsAt (form_of a.list) (numbers_of a.list) c.loop-k.at
stands c = (rest_next c.loop-k.invariant.ahead c.loop-k-test.true).here.stands

pub curve_at-curve-requires : goal.curve_at-curve-requires
curve_at-curve-requires c = stands (goal.at.curve_at-curve-requires c).In-loop-k

pub next_of-at-requires : goal.next_of-at-requires
next_of-at-requires c = stands (goal.at.next_of-at-requires c).In-loop-k

pub write_curve-place-requires : goal.write_curve-place-requires
write_curve-place-requires c =
    let f = c.loop-k.invariant in
    rw c.curve_at-curve.ensures
    (c.requires.0, filled_ready f c.loop-k-test.true, omega (arith, c.requires.1.readable.few), filled_room f c.loop-k-test.true)

pub loop-k-preserved : goal.loop-k-preserved
loop-k-preserved c =
    let w = c.write_curve-place.ensures in
    rw c.next_of-at.ensures (filled_on c.loop-k.invariant c.loop-k-test.true c.curve_at-curve.ensures w.value w.records_after)

pub shape_of-records : goal.shape_of-records
shape_of-records c = filled_length c.loop-k.invariant

pub returns : goal.returns
returns c =
    let f = c.loop-k.invariant in record { value = rw (to_z-of_z c.ranges.t) at (filled_place f c.loop-k-test.false); records_after = rw (to_z-of_z c.ranges.t) at (filled_done f c.loop-k-test.false) }

pub overflow_cast-k : goal.overflow_cast-k
overflow_cast-k c = omega (arith, c.requires.1.readable.few)
