-- The first fault of a changed outline: each return is one case of its definition.
use mathlib.Core.Path.{◌≡◌, sym, ap}
use mathlib.Core.Option.{none}
use native.Mathlib.Omega.{arith}
use Rattle.std.proofs.lemmas.Result.{err_from_is_err_and}
use Rattle.outline.specs.Inside.{fault_of}
use Rattle.outline.proofs.Degrees.{degree_most}
use Rattle.outline_changed.specs.Inside.{own_fault}
use Rattle.outline_changed.proofs.OwnFaults.{own_fine, fault_none, fault_some, changed_own, changed_gap, changed_next, changed_fine}
use Rattle.outline_changed.proofs.changed_fault.Goals as goal
use Rattle.outline_changed.proofs.changed_fault.Goals.{In_ok-own_fault}

pub returns-in_err-own_fault : goal.returns-in_err-own_fault
returns-in_err-own_fault c =
    let s = c.args in
    let r = c.in_err-own_fault.field-0.0 in
    let p = err_from_is_err_and c.from_residual.result c.from_residual.ensures.1 in
    rw (p.1, p.2)
    (sym (ap fault_of (changed_own s.m s.ns.now s.at s.next s.curve.now r (fault_some (own_fault s.m s.curve.now s.at) r c.in_err-own_fault.ensures))))

-- the new curve has no fault of its own
own : (c : In_ok-own_fault) → let s = c.args in own_fault s.m s.curve.now s.at ≡ none
own c = let s = c.args in fault_none (own_fault s.m s.curve.now s.at) c.in_ok-own_fault.ensures

pub returns-then-not-meets_old : goal.returns-then-not-meets_old
returns-then-not-meets_old c =
    let s = c.args in
    sym (ap fault_of (changed_gap s.m s.ns.now s.at s.next s.curve.now (own (goal.at.returns-then-not-meets_old c).In_ok-own_fault)
    (sym c.if-not-meets_old.ensures)))

pub meets_next-requires : goal.meets_next-requires
meets_next-requires c =
    (c.requires.0, own_fine c.args.m c.args.curve.now c.args.at (own (goal.at.meets_next-requires c).In_ok-own_fault), c.requires.3)

pub next_at-requires : goal.next_at-requires
next_at-requires c =
    let s = c.args in
    own_fine s.m s.curve.now s.at (own (goal.at.next_at-requires c).In_ok-own_fault)

pub overflow_add-result : goal.overflow_add-result
overflow_add-result c =
    let a = c.args in
    omega (arith, c.next_at.ensures, degree_most a.curve.now 0 (own_fine a.m a.curve.now a.at (own (goal.at.overflow_add-result c).In_ok-own_fault)), c.requires.1)

pub returns-then-not-meets_next : goal.returns-then-not-meets_next
returns-then-not-meets_next c =
    let s = c.args in
    rw c.next_at.ensures
    (sym (ap fault_of (changed_next s.m s.ns.now s.at s.next s.curve.now (own (goal.at.returns-then-not-meets_next c).In_ok-own_fault)
    (sym c.if-not-meets_old.ensures) (sym c.if-not-meets_next.ensures))))

pub returns : goal.returns
returns c =
    let s = c.args in
    sym (ap fault_of (changed_fine s.m s.ns.now s.at s.next s.curve.now (own (goal.at.returns c).In_ok-own_fault)
    (sym c.if-not-meets_old.ensures) (sym c.if-not-meets_next.ensures)))
