-- The checks of the changed outline, and its records: each return is a case of banding it.
use mathlib.Core.Path.{◌≡◌, refl}
use mathlib.Core.Option.{none}
use mir.Facts.{to_z-of_z}
use Rattle.std.proofs.lemmas.Result.{err_from_is_err_and}
use Rattle.outline_changed.specs.Inside.{changed_fault}
use Rattle.outline_changed.proofs.OwnFaults.{fault_none, fault_some}
use Rattle.band_exchange.proofs.Whole.{at_few, at_inside, next_inside, by_fault, new_readable, front, by_replaced}
use Rattle.band_exchange.proofs.exchange_by.Goals as goal
use Rattle.band_exchange.proofs.exchange_by.Goals.{In_ok-changed_fault}

pub changed_fault-requires : goal.changed_fault-requires
changed_fault-requires c =
    let x = c.requires.2 in
    let new = c.args.curve.now in
    (c.requires.1, at_few x new c.requires.1, at_inside x new c.requires.1, next_inside x new c.requires.1)

-- the changed outline has no fault
fine : (e : In_ok-changed_fault) →
    let a = e.args in
    changed_fault a.m a.ns.now a.first.at a.second.at a.curve.now ≡ none
fine e = fault_none _ e.in_ok-changed_fault.ensures

pub replace-requires : goal.replace-requires
replace-requires c =
    let new = c.args.curve.now in
    rw (to_z-of_z c.ranges.t) (c.requires.0, new_readable c.requires.2 new c.requires.1 (fine (goal.at.replace-requires c).In_ok-changed_fault), front c.requires.2 new c.requires.1 (fine (goal.at.replace-requires c).In_ok-changed_fault))

pub returns-in_err-changed_fault : goal.returns-in_err-changed_fault
returns-in_err-changed_fault c =
    let r = c.in_err-changed_fault.field-0.0 in
    let p = err_from_is_err_and c.from_residual.result c.from_residual.ensures.1 in
    rw (p.1, p.2) (record {
      value = by_fault c.requires.2 c.args.curve.now c.requires.1 r (fault_some _ r c.in_err-changed_fault.ensures);
      records_after = refl;
    })

pub returns : goal.returns
returns c =
    let both = by_replaced c.requires.2 c.args.curve.now c.requires.1 (fine (goal.at.returns c).In_ok-changed_fault) _ _ (rw (to_z-of_z c.ranges.t) at c.replace.ensures) in
    record { value = both.0; records_after = both.1 }
