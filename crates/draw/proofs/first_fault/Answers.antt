-- `draw::first_fault` meets its contract.
use Rattle.std.proofs.Common.{rules, sym, ◌∙◌, ap}
use Rattle.integers.proofs.First.{moved}
use Rattle.boxes.specs.Ranges.{place_of}
use Rattle.boxes.proofs.Faults.{place_some, place_none}
use Rattle.draw.proofs.Faults.{second_below, fault_of_first, fault_of_second}
use Rattle.draw.proofs.first_fault.Goals as goal

pub returns-in-Some : goal.returns-in-Some
returns-in-Some c = let a = c.args in sym (ap place_of (fault_of_first a.first a.second _ (place_some _ c.in-Some.ensures)))

pub returns-in_err-place : goal.returns-in_err-place
returns-in_err-place c =
    let a = c.args in
    let e = fault_of_second a.first a.second (place_none _ c.in_default.ensures) in
    c.from_residual.ensures ∙ sym (ap place_of (e ∙ ap (moved 4) (place_none _ c.in_err-place.ensures)))

pub overflow_add-result : goal.overflow_add-result
overflow_add-result c = let h = second_below c.args.first c.args.second _ (place_some _ c.in_ok-place.ensures) in search rules

pub returns : goal.returns
returns c =
    let a = c.args in
    let e = fault_of_second a.first a.second (place_none _ c.in_default.ensures) in
    sym (ap place_of (e ∙ ap (moved 4) (place_some _ c.in_ok-place.ensures)))
