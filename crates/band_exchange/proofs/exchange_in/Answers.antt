-- The rows of the number of pieces copied, then check 7 of the outline, 22 and 23, and the rest.
use Rattle.std.proofs.Common.{◌≡◌, refl, sym, ◌∙◌, true, ◌&&◌, arith}
use borrow.Author.Tests.{not-true, not-false}
use lib.Dec.{eqb}
use mir.Facts.{to_z-of_z}
use Rattle.setting.specs.Setting.{lists}
use Rattle.bound_row_table.proofs.Copying.{filled}
use Rattle.std.specs.Prelude.{Ok}
use Rattle.std.proofs.lemmas.Result.{err_from_is_err_and}
use Rattle.band_comparing.specs.Inside.{compared_of}
use Rattle.band_exchange.proofs.Top.{scale_is, Asked, readable, read_wide, read_none, read_other, read_on, exchangeable}
use Rattle.band_exchange.proofs.exchange_in.Goals as goal
use Rattle.band_exchange.proofs.exchange_in.Goals.{After-min-shown, In_ok-found, Else-not-are_records}

pub put_rows-requires : goal.put_rows-requires
put_rows-requires c = let h = c.requires.0 in (h, refl, filled h 297)

-- what is asked
asked : (c : After-min-shown) →
    let a = c.args in
    Asked a.m a.t a.ns.now a.curves a.number a.curve.now a.given a.records.now c.min-shown.result
asked c = record { checked = c.requires.1; seen = c.min-shown.ensures }

pub compare-requires : goal.compare-requires
compare-requires c =
    rw (to_z-of_z c.ranges.t) (
      omega (arith, c.min-shown.ensures),
      record { has = c.requires.0; copied = c.put_rows.ensures; scaled = scale_is c.args.m c.requires.0 },
      c.requires.3,
      readable (asked (goal.at.compare-requires c).After-min-shown),
    )

-- what the pass found
through : (c : In_ok-found) →
    let a = c.args in
    Ok c.in_ok-found.found
    ≡ compared_of (lists a.m) a.t a.ns.now a.curves a.number a.records.now c.min-shown.result
through c = rw (to_z-of_z c.ranges.t) at (sym c.in_ok-found.was ∙ c.compare.ensures)

pub returns-then-curves-number : goal.returns-then-curves-number
returns-then-curves-number c =
    let g = goal.at.returns-then-curves-number c in
    record {
      value = read_none (asked g.After-min-shown) (through g.In_ok-found) c.if-curves-number.true;
      records_after = refl;
    }

pub returns-then-not-are_records : goal.returns-then-not-are_records
returns-then-not-are_records c =
    let g = goal.at.returns-then-not-are_records c in
    record {
      value = read_other (asked g.After-min-shown) (through g.In_ok-found) c.if-curves-number.false
          (sym c.are_records.ensures ∙ not-true c.are_records.result c.if-not-are_records.true-raw) _ c.min.ensures;
      records_after = refl;
    }

-- the numbers given are the outline's records
fine : (c : Else-not-are_records) →
    let g = c.in_ok-found.found in
    let n = c.args.given in
    (eqb g.reach n && eqb n g.whole) ≡ true
fine c = sym c.are_records.ensures ∙ not-false c.are_records.result c.if-not-are_records.false-raw

pub exchange_by-requires : goal.exchange_by-requires
exchange_by-requires c =
    let g = goal.at.exchange_by-requires c in
    rw (to_z-of_z c.ranges.t) (
      c.requires.0,
      c.requires.2,
      exchangeable (asked g.After-min-shown) (through g.In_ok-found) c.if-curves-number.false (fine g.Else-not-are_records),
    )

pub returns-in_err-found : goal.returns-in_err-found
returns-in_err-found c =
    let p = err_from_is_err_and c.from_residual.result c.from_residual.ensures.1 in
    rw (p.1, p.2) (record {
      value = read_wide (asked (goal.at.returns-in_err-found c).After-min-shown) _
          (rw (to_z-of_z c.ranges.t) at (sym c.in_err-found.was ∙ c.compare.ensures));
      records_after = refl;
    })

pub returns : goal.returns
returns c =
    let g = goal.at.returns c in
    let w = rw (to_z-of_z c.ranges.t) at c.exchange_by.ensures in
    record {
      value = w.value ∙ read_on (asked g.After-min-shown) (through g.In_ok-found) c.if-curves-number.false (fine g.Else-not-are_records);
      records_after = w.records_after;
    }
