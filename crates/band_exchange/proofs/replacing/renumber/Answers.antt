-- Records renumbered one by one. The loop's invariant: what is left to do, from the record at hand on, is what there was to do from the first
-- on.
use mathlib.Core.Path.{◌≡◌, refl, sym, ◌∙◌, ap}
use Prim.Native.Nat.{suc, ◌+◌, ◌-◌, ◌*◌, ◌≤◌}
use native.Mathlib.Nat.{mul-le-mul_left}
use native.Mathlib.Omega.{arith}
use lib.ListN.{length, set, length-set}
use lib.IntN.{pos}
use mir.Syntax.{w32}
use mir.Val.{to_z}
use mir.Facts.{to_z_pos}
use Rattle.band_exchange.specs.Inside.{renumbered}
use Rattle.band_exchange.proofs.Renumbering.{renumbered_none, renumbered_next}
use Rattle.band_exchange.proofs.replacing.renumber.Goals as goal
use Rattle.band_exchange.proofs.replacing.renumber.Goals.{In-loop-i}

pub loop-i-init : goal.loop-i-init
loop-i-init c =
    let a = c.args in (
      ap (λ at. renumbered a.records.now at a.record_length (a.n - 0) a.number) {x = a.place + a.record_length * 0} {y = a.place} (omega arith)
          ∙ ap (λ k. renumbered a.records.now a.place a.record_length k a.number) {x = a.n - 0} {y = a.n} (omega arith),
      refl,
    )

-- the record at hand is inside
inside : (c : In-loop-i) →
    let a = c.args in
    a.place + a.record_length * c.loop-i.i + a.record_length ≤ length c.loop-i.records
inside c =
    let i = c.loop-i.i in
    let less : suc i ≤ c.args.n = omega arith in
    omega (arith, mul-le-mul_left c.args.record_length less, c.loop-i.invariant.1, c.requires.0)

pub loop-i-preserved : goal.loop-i-preserved
loop-i-preserved c =
    let a = c.args in
    let l = c.loop-i in
    let at = a.place + a.record_length * l.i in
    let on : a.place + a.record_length * (l.i + 1) ≡ at + a.record_length = omega arith in
    let held : to_z w32 a.number ≡ pos a.number = to_z_pos w32 c.requires.2 in
    let left : a.n - l.i ≡ suc (a.n - (l.i + 1)) = omega arith in (
      ap (λ n. renumbered (set l.records at (to_z w32 a.number)) n a.record_length (a.n - (l.i + 1)) a.number) on
          ∙ ap (λ z. renumbered (set l.records at z) (at + a.record_length) a.record_length (a.n - (l.i + 1)) a.number) held
          ∙ sym (ap (λ k. renumbered l.records at a.record_length k a.number) left
          ∙ renumbered_next l.records at a.record_length a.number (a.n - (l.i + 1)))
          ∙ l.invariant.0,
      length-set l.records at (to_z w32 a.number) ∙ l.invariant.1,
    )

pub shape_of-records : goal.shape_of-records
shape_of-records c = c.loop-i.invariant.1

pub returns : goal.returns
returns c =
    let a = c.args in
    let l = c.loop-i in
    let at = a.place + a.record_length * l.i in
    let none : a.n - l.i ≡ 0 = omega arith in
    sym (ap (λ k. renumbered l.records at a.record_length k a.number) none
    ∙ renumbered_none l.records at a.record_length a.number)
    ∙ l.invariant.0
