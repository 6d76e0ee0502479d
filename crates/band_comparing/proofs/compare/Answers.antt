-- The pass over all curves. The loop's invariant: it stands before curve k, whatever was found before.
use mathlib.Core.Path.{sym, ◌∙◌}
use Prim.Native.Nat.{◌*◌, ◌≤◌, zero-le}
use native.Mathlib.Nat.{mul-le-mul}
use native.Mathlib.Omega.{arith}
use borrow.Author.Tests.{ltb-true, ltb-false, leb-true, leb-false}
use mir.Facts.{to_z-of_z}
use Rattle.setting.specs.Setting.{lists, record_length}
use Rattle.band_passes.proofs.Reading.{rest_next}
use Rattle.band_comparing.proofs.CompareLaws.{comparing_start, comparing_less, comparing_few, comparing_done, comparing_wide, comparing_on}
use Rattle.band_comparing.proofs.compare.Goals as goal
use Rattle.band_comparing.proofs.compare.Goals.{At-loop-k}

pub loop-k-init : goal.loop-k-init
loop-k-init c = comparing_start _ _ _ _ _ _ _ c.requires.3

pub curve_at-curve-requires : goal.curve_at-curve-requires
curve_at-curve-requires c = (rest_next c.loop-k.invariant.ahead c.loop-k-test.true).here.stands

pub next_at-at-requires : goal.next_at-at-requires
next_at-at-requires c = (rest_next c.loop-k.invariant.ahead c.loop-k-test.true).here.stands.0

-- there is room for all places
place_few : (l : At-loop-k) → l.loop-k.here.place ≤ 637534208
place_few l =
    let long : record_length (lists l.args.m) ≤ 38 = omega (arith, l.requires.1.has.most) in
    let many : 256 * l.loop-k.k ≤ 16777216 = omega (arith, l.loop-k.invariant.ahead.done, l.requires.3.few) in
    omega (arith, comparing_few _ _ _ _ _ _ _ l.loop-k.invariant, mul-le-mul long many)

pub see_curve-requires : goal.see_curve-requires
see_curve-requires c =
    let x = (rest_next c.loop-k.invariant.ahead c.loop-k-test.true).here in (
      record {
        there = omega (arith, comparing_less _ _ _ _ _ _ _ c.loop-k.invariant, c.requires.0);
        place = omega (arith, place_few (goal.at.see_curve-requires c).At-loop-k);
        lent = c.requires.1;
        sized = rw c.curve_at-curve.ensures x.sized;
        takes = rw c.curve_at-curve.ensures x.suits.takes;
        shallow = zero-le;
        small = rw (to_z-of_z c.ranges.t) c.requires.2;
      },
      omega (arith, c.loop-k.invariant.ahead.done, c.requires.3.few),
    )

pub returns-in-Err : goal.returns-in-Err
returns-in-Err c =
    rw (to_z-of_z c.ranges.t) at
    (comparing_wide _ _ _ _ _ _ _ c.loop-k.invariant c.loop-k-test.true c.curve_at-curve.result c.curve_at-curve.ensures
    c.in-Err.node (sym c.in-Err.is ∙ c.see_curve.ensures))

pub loop-k-preserved : goal.loop-k-preserved
loop-k-preserved c =
    let k = c.loop-k.k in
    let number = c.args.number in
    rw c.next_at-at.ensures
    (comparing_on _ _ _ _ _ _ _ c.loop-k.invariant c.loop-k-test.true c.curve_at-curve.result c.curve_at-curve.ensures
    c.in-Ok.seen (sym c.in-Ok.is ∙ c.see_curve.ensures)
    (ltb-true k number) (ltb-false k number) (leb-true k number) (leb-false k number)
    (rw c.next_at-at.ensures at c.later-first.ensures) (rw c.next_at-at.ensures at c.later-second.ensures))

pub returns : goal.returns
returns c = rw (to_z-of_z c.ranges.t) at (comparing_done _ _ _ _ _ _ _ c.loop-k.invariant c.loop-k-test.false)

pub overflow_cast-k : goal.overflow_cast-k
overflow_cast-k c = omega (arith, c.loop-k.invariant.ahead.done, c.requires.3.few)

pub overflow_cast-result : goal.overflow_cast-result
overflow_cast-result c = omega (arith, c.loop-k.invariant.ahead.done, c.requires.3.few)
