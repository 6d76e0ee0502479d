-- Whether the leaves of a list's curves surely have room. The loop's invariant: `Fitting`.
use Prim.Native.Nat.{ℕ}
use mathlib.Core.Path.{◌≡◌, sym, ◌∙◌, ap, subst}
use native.Mathlib.Omega.{arith}
use lib.Dec.{T}
use mir.Syntax.{w64}
use mir.Facts.{to_z-of_z}
use Rattle.integers.proofs.Ranges.{stored}
use Rattle.curve_nodes.specs.declared.Curve.{Curve}
use Rattle.band_passes.specs.declared.forms.CurveList.{CurveList}
use Rattle.band_passes.specs.Inside.{form_of, numbers_of, read_at, StandsAt}
use Rattle.band_passes.proofs.Reading.{rest_next}
use Rattle.std.proofs.lemmas.Option.{MatchOption-at_some}
use Rattle.bound_pieces.specs.Inside.{setting_of}
use Rattle.band_room.specs.Inside.{Few}
use Rattle.band_room.proofs.Fitting.{some_few, fitting_start, fitting_on, fitting_done}
use Rattle.band_room.proofs.surely_fit.Goals as goal
use Rattle.band_room.proofs.surely_fit.Goals.{In-loop-k, In-Some}

pub loop-k-init : goal.loop-k-init
loop-k-init c = fitting_start c.requires.2 c.if-room-curves.false

-- the curve at hand can be read, whatever the form
stands : (c : In-loop-k) → let a = c.args in StandsAt (form_of a.list) (numbers_of a.list) c.loop-k.at
stands c = (rest_next c.loop-k.invariant.ahead c.loop-k-test.true).here.stands

pub curve_at-curve-requires : goal.curve_at-curve-requires
curve_at-curve-requires c = stands (goal.at.curve_at-curve-requires c).In-loop-k

pub returns-then-room-curves : goal.returns-then-room-curves
returns-then-room-curves c = λ e. absurd (subst T (sym e) tt)

pub returns-then-curve-gt3 : goal.returns-then-curve-gt3
returns-then-curve-gt3 c = λ e. absurd (subst T (sym e) tt)

pub next_of-at-requires : goal.next_of-at-requires
next_of-at-requires c = stands (goal.at.next_of-at-requires c).In-loop-k

pub most_leaves-requires : goal.most_leaves-requires
most_leaves-requires c =
    let x = (rest_next c.loop-k.invariant.ahead c.loop-k-test.true).here in
    let p = c.requires in
    (p.0, p.1, rw c.curve_at-curve.ensures x.sized, c.if-curve-gt3.false)

-- what is known of its leaves
few : (c : In-Some) → Few (setting_of c.args.pieces) (stored w64 c.args.t) c.curve_at-curve.result c.in-Some.most
few c = MatchOption-at_some _ _ c.in-Some.most c.in-Some.is c.most_leaves.ensures

pub overflow_sub-most : goal.overflow_sub-most
overflow_sub-most c = omega (arith, some_few (few (goal.at.overflow_sub-most c).In-Some))

pub returns-then-left-most : goal.returns-then-left-most
returns-then-left-most c = λ e. absurd (subst T (sym e) tt)

pub loop-k-preserved : goal.loop-k-preserved
loop-k-preserved c =
    rw c.next_of-at.ensures (fitting_on c.loop-k.invariant c.loop-k-test.true c.curve_at-curve.ensures (few (goal.at.loop-k-preserved c).In-Some)
    c.if-left-most.false)

pub returns : goal.returns
returns c = λ _. rw (to_z-of_z c.ranges.t) at (fitting_done c.loop-k.invariant c.loop-k-test.false)

pub overflow_sub-left-in-loop-k : goal.overflow_sub-left-in-loop-k
overflow_sub-left-in-loop-k c = omega (arith, some_few (few (goal.at.overflow_sub-left-in-loop-k c).In-Some))

pub overflow_sub-left-in-loop-k-2 : goal.overflow_sub-left-in-loop-k-2
overflow_sub-left-in-loop-k-2 c = omega arith
