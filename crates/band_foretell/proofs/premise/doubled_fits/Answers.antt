-- The descent: what is asked of p and q, turned or not, is at each turn the question of a and b.
use mathlib.Core.Path.{◌≡◌, refl, ◌∙◌, ap₂}
use Prim.Native.Nat.{◌+◌, ◌*◌, ◌-◌}
use native.Mathlib.Omega.{arith}
use Rattle.integers.proofs.Clash.{clash}
use Rattle.band_foretell.proofs.Descent.{asked, ends_below, ends_above, steps}
use Rattle.band_foretell.proofs.premise.doubled_fits.Goals as goal

pub loop-q-init : goal.loop-q-init
unfolding asked
loop-q-init c = (refl, λ e. clash (cc), omega arith, omega arith)

pub returns-then-q-p : goal.returns-then-q-p
returns-then-q-p c = let l = c.loop-q in ends_below l.p l.q l.turned (omega arith) ∙ l.invariant.0

pub returns-then-p-q : goal.returns-then-p-q
returns-then-p-q c = let l = c.loop-q in ends_above l.p l.q l.turned (omega arith) l.invariant.1 ∙ l.invariant.0

pub loop-q-preserved : goal.loop-q-preserved
loop-q-preserved c =
    let l = c.loop-q in
    let p' = l.q - l.p in
    let q' = 2 * l.p - l.q in
    let p-is : q' + p' ≡ l.p = omega arith in
    let q-is : q' + 2 * p' ≡ l.q = omega arith in
    (steps p' q' l.turned ∙ ap₂ (asked l.turned) p-is q-is ∙ l.invariant.0, λ e. omega arith, omega arith, omega arith)
