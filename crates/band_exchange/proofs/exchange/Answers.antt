-- The whole exchange, from the checks of the old outline on.
use mathlib.Core.Path.{◌≡◌, sym, ◌∙◌}
use mathlib.Core.Bool.{true}
use borrow.Author.Rules.{rules}
use borrow.Author.Tests.{not-true, not-false}
use mir.Syntax.{w64}
use mir.Facts.{to_z-of_z, sfits_widen}
use Rattle.std.proofs.lemmas.Result.{err_from_is_err_and}
use Rattle.setting.specs.Setting.{lists, pieces_fine}
use Rattle.setting.proofs.Pieces.{fine_has_rows}
use Rattle.outline.specs.Checks.{tolerance_fine, outlined}
use Rattle.refusals.specs.declared.Refusal.TheVariants.{Pieces, Tolerance}
use Rattle.band_banded.proofs.Answers.{banded_pieces, banded_tolerance, banded_faulty}
use Rattle.band_exchange.proofs.Top.{tolerance_few, exchanged_read_law, exchanged_list_law, exchanged_refused}
use Rattle.band_exchange.proofs.exchange.Goals as goal
use Rattle.band_exchange.proofs.exchange.Goals.{Else-not-pieces_fine, Else-not-tolerance_fine}

pub returns-then-not-pieces_fine : goal.returns-then-not-pieces_fine
returns-then-not-pieces_fine c =
    let a = c.args in
    let both = exchanged_refused a.m a.tolerance a.outline.now a.number a.curve a.given a.records.now Pieces
    (banded_pieces (lists a.m) (outlined 4096 a.m a.outline.now) a.tolerance _
    (sym c.pieces_fine.ensures ∙ not-true c.pieces_fine.result c.if-not-pieces_fine.true-raw)) in
    record { value = both.0; records_after = both.1 }

-- past check 18
rows : (r : Else-not-pieces_fine) → pieces_fine r.args.m ≡ true
rows r = sym r.pieces_fine.ensures ∙ not-false r.pieces_fine.result r.if-not-pieces_fine.false-raw

pub returns-then-not-tolerance_fine : goal.returns-then-not-tolerance_fine
returns-then-not-tolerance_fine c =
    let a = c.args in
    let both = exchanged_refused a.m a.tolerance a.outline.now a.number a.curve a.given a.records.now Tolerance
    (banded_tolerance (lists a.m) (outlined 4096 a.m a.outline.now) a.tolerance _ (rows (goal.at.returns-then-not-tolerance_fine c).Else-not-pieces_fine)
    (rw (to_z-of_z c.ranges.tolerance) at (sym c.tolerance_fine.ensures
    ∙ not-true c.tolerance_fine.result c.if-not-tolerance_fine.true-raw))) in
    record { value = both.0; records_after = both.1 }

-- past check 1
fine : (c : Else-not-tolerance_fine) → tolerance_fine c.args.tolerance ≡ true
fine c =
    rw (to_z-of_z c.ranges.tolerance) at
    (sym c.tolerance_fine.ensures ∙ not-false c.tolerance_fine.result c.if-not-tolerance_fine.false-raw)

pub overflow_cast-tolerance : goal.overflow_cast-tolerance
overflow_cast-tolerance c =
    rw (to_z-of_z c.ranges.tolerance) (sfits_widen tt c.ranges.tolerance)

pub exchange_in-requires : goal.exchange_in-requires
exchange_in-requires c =
    let small = tolerance_few c.args.tolerance (fine (goal.at.exchange_in-requires c).Else-not-tolerance_fine) in
    rw (to_z-of_z c.ranges.tolerance, to_z-of_z (sfits_widen {w' = w64} tt c.ranges.tolerance))
    (fine_has_rows c.args.m (rows (goal.at.exchange_in-requires c).Else-not-pieces_fine), sym c.in_ok-curves.was ∙ c.check_outline.ensures, search rules, small)

pub returns-in_err-curves : goal.returns-in_err-curves
returns-in_err-curves c =
    let a = c.args in
    let g = goal.at.returns-in_err-curves c in
    let p = err_from_is_err_and c.from_residual.result c.from_residual.ensures.1 in
    let both = exchanged_refused a.m a.tolerance a.outline.now a.number a.curve a.given a.records.now _
    (banded_faulty (lists a.m) (outlined 4096 a.m a.outline.now) a.tolerance _ (rows g.Else-not-pieces_fine) (fine g.Else-not-tolerance_fine)
    (sym c.in_err-curves.was ∙ c.check_outline.ensures)) in
    rw (p.1, p.2) (record { value = both.0; records_after = both.1 })

pub returns : goal.returns
returns c =
    let a = c.args in
    let v = rw (to_z-of_z c.ranges.tolerance, to_z-of_z (sfits_widen {w' = w64} tt c.ranges.tolerance)) at c.exchange_in.ensures in
    let e = v.value ∙ exchanged_read_law a.m a.tolerance a.outline.now a.number a.curve a.given a.records.now
    (rows (goal.at.returns c).Else-not-pieces_fine) (fine (goal.at.returns c).Else-not-tolerance_fine) in
    record { value = e; records_after = exchanged_list_law a.m a.tolerance a.outline.now a.number a.curve a.given a.records.now _ _ e v.records_after }
