-- `band_passes::leaf_count::count` meets its contract. The loop's invariant: with k curves done and so many leaves counted, the whole list's
-- answer is what the rest of it gives, counted on.
use Prim.Native.Nat.{ℕ}
use mathlib.Core.Path.{◌≡◌, sym, ◌∙◌, ap, subst}
use native.Mathlib.Omega.{arith}
use mir.Syntax.{w64}
use mir.Facts.{to_z-of_z}
use Rattle.std.specs.Prelude.{Ok}
use Rattle.integers.proofs.Ranges.{stored}
use Rattle.bound_pieces.specs.Inside.{setting_of}
use Rattle.curve_nodes.specs.declared.Curve.{Curve}
use Rattle.band_passes.specs.declared.forms.CurveList.{CurveList}
use Rattle.walk_curve.specs.Inside.{walked_of}
use Rattle.band_passes.specs.Inside.{form_of, numbers_of, read_at, StandsAt}
use Rattle.band_passes.proofs.Reading.{rest_next}
use Rattle.band_passes.proofs.CountPasses.{passed_start, passed_wide, passed_few, passed_more, passed_done}
use Rattle.band_passes.proofs.leaf_count.count.Goals as goal
use Rattle.band_passes.proofs.leaf_count.count.Goals.{In-Ok, In-loop-k}

pub loop-k-init : goal.loop-k-init
loop-k-init c = passed_start c.requires.1

-- the curve at hand can be read, whatever the form
stands : (c : In-loop-k) → let a = c.args in StandsAt (form_of a.list) (numbers_of a.list) c.loop-k.at
stands c = (rest_next c.loop-k.invariant.ahead c.loop-k-test.true).here.stands

pub curve_at-curve-requires : goal.curve_at-curve-requires
curve_at-curve-requires c = stands (goal.at.curve_at-curve-requires c).In-loop-k

pub next_of-at-requires : goal.next_of-at-requires
next_of-at-requires c = stands (goal.at.next_of-at-requires c).In-loop-k

pub walk-requires : goal.walk-requires
walk-requires c =
    let x = (rest_next c.loop-k.invariant.ahead c.loop-k-test.true).here in
    rw c.curve_at-curve.ensures (c.requires.0, x.sized, x.suits)

pub returns-in-Err : goal.returns-in-Err
returns-in-Err c =
    rw (to_z-of_z c.ranges.t) at
    (passed_wide c.loop-k.invariant c.loop-k-test.true c.in-Err.node
    (sym c.in-Err.is ∙ c.walk.ensures ∙ ap (walked_of _ _) c.curve_at-curve.ensures))

-- what the walk of the curve at hand gave
leaves-walked : (c : In-Ok) →
    let a = c.args in
    let q = read_at (form_of a.list) (numbers_of a.list) c.loop-k.at in
    c.curve_at-curve.result ≡ q → Ok c.in-Ok.n ≡ walked_of (setting_of a.pieces) (stored w64 a.t) q
leaves-walked c e = sym c.in-Ok.is ∙ c.walk.ensures ∙ ap (walked_of _ _) e

pub overflow_add-leaves : goal.overflow_add-leaves
overflow_add-leaves c =
    omega (
      arith,
      passed_few c.loop-k.invariant c.loop-k-test.true c.in-Ok.n (leaves-walked (goal.at.overflow_add-leaves c).In-Ok c.curve_at-curve.ensures),
      c.requires.1.few,
    )

pub loop-k-preserved : goal.loop-k-preserved
loop-k-preserved c =
    rw c.next_of-at.ensures
    (passed_more c.loop-k.invariant c.loop-k-test.true c.in-Ok.n (leaves-walked (goal.at.loop-k-preserved c).In-Ok c.curve_at-curve.ensures))

pub returns : goal.returns
returns c = rw (to_z-of_z c.ranges.t) at (passed_done c.loop-k.invariant c.loop-k-test.false)

pub overflow_cast-result : goal.overflow_cast-result
overflow_cast-result c = omega (arith, c.requires.1.few)
