-- The least tolerance that fits. The loop's invariant: all up to `low` are too tight, and `high` is not. The measure is how far apart they are.
use mathlib.Core.Path.{sym, ◌∙◌}
use Prim.Native.Nat.{◌+◌, ◌/◌}
use native.Mathlib.Omega.{arith}
use Rattle.setting.specs.Setting.{lists}
use Rattle.band_passes.specs.Forms.{Outline}
use Rattle.band_passes.specs.Inside.{curves_in}
use Rattle.band_tightest.proofs.Span.{around_all, around_upper, around_lower, nothing_fits, least_found}
use Rattle.band_tighten.proofs.outline_tightest.tightest_curves.Goals as goal

pub returns-then-too_tight : goal.returns-then-too_tight
returns-then-too_tight c =
    let a = c.args in
    nothing_fits (lists a.m) (curves_in Outline a.ns.now a.curves) a.most
    (sym c.too_tight.ensures ∙ c.if-too_tight.true)

pub loop-low-init : goal.loop-low-init
loop-low-init c =
    let a = c.args in
    around_all (lists a.m) (curves_in Outline a.ns.now a.curves) a.most
    (sym c.too_tight.ensures ∙ c.if-too_tight.false)

pub overflow_add-low : goal.overflow_add-low
overflow_add-low c = omega (arith, c.loop-low.invariant.order, c.loop-low.invariant.most)

pub overflow_add-middle : goal.overflow_add-middle
overflow_add-middle c = omega (arith, c.loop-low.invariant.order, c.loop-low.invariant.most)

pub loop-low-smaller-then-too_tight-2 : goal.loop-low-smaller-then-too_tight-2
loop-low-smaller-then-too_tight-2 c = omega (arith, c.loop-low-test.true)

pub loop-low-preserved-then-too_tight-2 : goal.loop-low-preserved-then-too_tight-2
loop-low-preserved-then-too_tight-2 c =
    let a = c.args in
    around_upper (lists a.m) (curves_in Outline a.ns.now a.curves) a.most c.loop-low.invariant
    ((c.loop-low.low + c.loop-low.high) / 2) (omega (arith, c.loop-low-test.true)) (omega (arith, c.loop-low-test.true)) (sym c.too_tight-in-loop-low.ensures ∙ c.if-too_tight-2.true)

pub loop-low-smaller : goal.loop-low-smaller
loop-low-smaller c = omega (arith, c.loop-low-test.true)

pub loop-low-preserved : goal.loop-low-preserved
loop-low-preserved c =
    let a = c.args in
    around_lower (lists a.m) (curves_in Outline a.ns.now a.curves) a.most c.loop-low.invariant
    ((c.loop-low.low + c.loop-low.high) / 2) (omega (arith, c.loop-low-test.true)) (omega (arith, c.loop-low-test.true)) (sym c.too_tight-in-loop-low.ensures ∙ c.if-too_tight-2.false)

pub returns : goal.returns
returns c =
    let a = c.args in
    least_found (lists a.m) (curves_in Outline a.ns.now a.curves) a.most c.loop-low.invariant c.loop-low-test.false
