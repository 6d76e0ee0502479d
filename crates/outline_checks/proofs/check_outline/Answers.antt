-- `outline_checks::check_outline` meets its contract: an empty list is refused, and of any other each curve is counted that has no fault.
use mathlib.Core.Path.{◌≡◌, sym}
use mathlib.Core.Option.{none}
use Rattle.std.proofs.Common.{rules}
use Rattle.std.proofs.lemmas.Result.{err_from_is_err_and}
use Rattle.outline.specs.Faults.{fault_at}
use Rattle.outline.proofs.Faultless.{faultless}
use Rattle.outline_checks.proofs.Checking.{is_fault, no_fault, empty, begun, too_many, over, stopped, gone_on}
use Rattle.outline_checks.proofs.check_outline.Goals as goal
use Rattle.outline_checks.proofs.check_outline.Goals.{In_ok-fault_at}

pub returns-then-is_empty : goal.returns-then-is_empty
returns-then-is_empty c = empty c.args.ns.now c.args.most c.args.m (search rules)

pub loop-at-init : goal.loop-at-init
loop-at-init c = begun c.args.ns.now c.args.most c.args.m (search rules)

pub returns-then-count-most : goal.returns-then-count-most
returns-then-count-most c = too_many c.loop-at.invariant c.if-count-most.true c.loop-at-test.true

pub returns-in_err-fault_at : goal.returns-in_err-fault_at
returns-in_err-fault_at c =
    let p = err_from_is_err_and c.from_residual.result c.from_residual.ensures.1 in
    rw (p.1, p.2) (stopped c.loop-at.invariant c.if-count-most.false c.in_err-fault_at.field-0.0 c.loop-at-test.true
    (is_fault _ c.in_err-fault_at.field-0.0 (sym c.in_err-fault_at.ensures)))

-- where the curve has no fault
clear : (c : In_ok-fault_at) → fault_at c.args.m c.args.ns.now c.loop-at.at ≡ none
clear c = no_fault _ (sym c.in_ok-fault_at.ensures)

pub next_at-at-requires : goal.next_at-at-requires
next_at-at-requires c = (faultless _ _ _ (clear c)).degree

pub loop-at-preserved : goal.loop-at-preserved
loop-at-preserved c = rw c.next_at-at.ensures (gone_on c.loop-at.invariant c.if-count-most.false (clear c.before))

pub returns : goal.returns
returns c = over c.loop-at.invariant c.loop-at-test.false
