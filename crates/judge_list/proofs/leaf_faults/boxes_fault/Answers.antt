-- `judge_list::leaf_faults::boxes_fault` meets its contract. The loop's invariant: the numbers of the first i boxes are fine.
use mathlib.Core.Path.{◌≡◌, refl, sym, ◌∙◌, ap}
use mathlib.Core.List.{List}
use Prim.Native.Nat.{ℕ, suc, ◌+◌, ◌*◌}
use native.Mathlib.Omega.{arith}
use borrow.Author.Rules.{rules}
use lib.IntN.{ℤ}
use mathlib.Core.Option.{some}
use Rattle.integers.specs.First.{first_bad}
use Rattle.boxes.specs.Ranges.{box_fault, place_of}
use Rattle.boxes.specs.Records.{box_at_index}
use Rattle.boxes.proofs.Faults.{place_some, place_none, box_below}
use Rattle.judge_list.proofs.Numbers.{box_fine, box_bad}
use Rattle.judge_list.proofs.leaf_faults.boxes_fault.Invariants.{Passed}
use Rattle.judge_list.proofs.leaf_faults.boxes_fault.Goals as goal
use Rattle.judge_list.proofs.leaf_faults.boxes_fault.Goals.{In-Some}

begun : (m : ℕ) (ns : List ℤ) (at : ℕ) → Passed m ns at 0
unfolding first_bad
begun m ns at = record { few = omega arith; fine = refl }

pub loop-i-init : goal.loop-i-init
loop-i-init c = begun c.args.m c.args.leaves.now c.args.at

-- what the box in turn says
turn : (c : In-Some) → box_fault (box_at_index c.args.leaves.now (c.args.at + 4 * c.loop-i.i)) ≡ some c.in-Some.place
turn c = ap box_fault (sym c.box_in.ensures) ∙ place_some _ c.in-Some.ensures

pub overflow_add-result : goal.overflow_add-result
overflow_add-result c =
    let b = box_below _ c.in-Some.place (turn c) in
    let h = c.requires in
    search rules

pub returns-in-Some : goal.returns-in-Some
returns-in-Some c =
    let a = c.args in
    sym (ap place_of (box_bad a.leaves.now a.at c.loop-i.i c.loop-i.invariant.fine (suc a.m) c.in-Some.place (omega (arith, c.loop-i-test.true)) (turn c)))

pub loop-i-preserved : goal.loop-i-preserved
loop-i-preserved c =
    let a = c.args in
    let h = c.loop-i-test.true in
    let e = ap box_fault (sym c.box_in.ensures) ∙ place_none _ c.in_default.ensures in
    record { few = omega arith; fine = box_fine a.leaves.now a.at c.loop-i.i c.loop-i.invariant.fine e }

pub returns : goal.returns
returns c =
    let a = c.args in
    let few = c.loop-i.invariant.few in
    let h = c.loop-i-test.false in
    let n : 4 * c.loop-i.i ≡ 4 * suc a.m = omega arith in
    sym (ap place_of (rw n at c.loop-i.invariant.fine))

pub loop-i-smaller : goal.loop-i-smaller
loop-i-smaller c = omega arith
