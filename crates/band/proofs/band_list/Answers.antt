-- Banding, from the checks and the two passes.
use mathlib.Core.Path.{◌≡◌, sym, ◌∙◌}
use mathlib.Core.Bool.{true}
use borrow.Author.Tests.{not-true, not-false}
use mir.Syntax.{w64}
use mir.Facts.{to_z-of_z, sfits_widen}
use Rattle.std.proofs.lemmas.Result.{err_from_is_err_and}
use Rattle.setting.specs.Setting.{Setting, pieces_fine}
use Rattle.setting.proofs.Pieces.{fine_has_rows}
use Rattle.outline.specs.Checks.{Outlined, tolerance_fine}
use Rattle.band_passes.specs.Inside.{form_of}
use Rattle.band_banded.specs.Inside.{given_of, setting_for}
use Rattle.band_banded.proofs.Answers.{given_read, banded_read, written_curves, banded_pieces, banded_tolerance, banded_faulty, written_refused}
use Rattle.band.proofs.band_list.Goals as goal
use Rattle.band.proofs.band_list.Goals.{Else-not-pieces_fine, Else-not-tolerance_fine, Start}

-- the setting, and what is given in it
abbrev σ : Start → Setting
σ s = setting_for (form_of s.args.list) s.args.most s.args.leaves s.args.m

abbrev given : Start → Outlined
given s = given_of s.args.list s.args.most s.args.m

pub returns-then-not-pieces_fine : goal.returns-then-not-pieces_fine
returns-then-not-pieces_fine c =
    let a = c.args in
    let e = banded_pieces (σ (goal.at.returns-then-not-pieces_fine c).Start) (given (goal.at.returns-then-not-pieces_fine c).Start) a.tolerance _
    (sym c.pieces_fine.ensures ∙ not-true c.pieces_fine.result c.if-not-pieces_fine.true-raw) in
    record { value = e; records_after = written_refused (σ (goal.at.returns-then-not-pieces_fine c).Start) (given (goal.at.returns-then-not-pieces_fine c).Start) a.tolerance a.records.now e }

-- past check 18
rows : (c : Else-not-pieces_fine) → pieces_fine c.args.m ≡ true
rows c = sym c.pieces_fine.ensures ∙ not-false c.pieces_fine.result c.if-not-pieces_fine.false-raw

pub returns-then-not-tolerance_fine : goal.returns-then-not-tolerance_fine
returns-then-not-tolerance_fine c =
    let a = c.args in
    let e = banded_tolerance (σ (goal.at.returns-then-not-tolerance_fine c).Start) (given (goal.at.returns-then-not-tolerance_fine c).Start) a.tolerance _ (rows (goal.at.returns-then-not-tolerance_fine c).Else-not-pieces_fine)
    (rw (to_z-of_z c.ranges.tolerance) at (sym c.tolerance_fine.ensures
    ∙ not-true c.tolerance_fine.result c.if-not-tolerance_fine.true-raw)) in
    record { value = e; records_after = written_refused (σ (goal.at.returns-then-not-tolerance_fine c).Start) (given (goal.at.returns-then-not-tolerance_fine c).Start) a.tolerance a.records.now e }

-- past check 1
fine : (c : Else-not-tolerance_fine) → tolerance_fine c.args.tolerance ≡ true
fine c =
    rw (to_z-of_z c.ranges.tolerance) at
    (sym c.tolerance_fine.ensures ∙ not-false c.tolerance_fine.result c.if-not-tolerance_fine.false-raw)

pub overflow_cast-tolerance : goal.overflow_cast-tolerance
overflow_cast-tolerance c =
    rw (to_z-of_z c.ranges.tolerance) (sfits_widen tt c.ranges.tolerance)

pub band_curves-requires : goal.band_curves-requires
band_curves-requires c =
    let a = c.args in (
      fine_has_rows a.m (rows (goal.at.band_curves-requires c).Else-not-pieces_fine),
      (given_read a.list a.most a.leaves a.m c.requires (sym c.in_ok-curves.was ∙ c.check_list.ensures)).readable,
    )

pub returns-in_err-curves : goal.returns-in_err-curves
returns-in_err-curves c =
    let a = c.args in
    let g = goal.at.returns-in_err-curves c in
    let e = banded_faulty (σ g.Start) (given g.Start) a.tolerance _ (rows g.Else-not-pieces_fine) (fine g.Else-not-tolerance_fine)
    (sym c.in_err-curves.was ∙ c.check_list.ensures) in
    let p = err_from_is_err_and c.from_residual.result c.from_residual.ensures.1 in
    rw (p.1, p.2) (record { value = e; records_after = written_refused (σ g.Start) (given g.Start) a.tolerance a.records.now e })

pub returns : goal.returns
returns c =
    let a = c.args in
    let g = goal.at.returns c in
    let e = given_read a.list a.most a.leaves a.m c.requires
    (sym c.in_ok-curves.was ∙ c.check_list.ensures) in
    let v = rw (to_z-of_z c.ranges.tolerance, to_z-of_z (sfits_widen {w' = w64} tt c.ranges.tolerance)) at c.band_curves.ensures in
    let b = v.value
    ∙ banded_read (σ g.Start) (given g.Start) a.tolerance e _ (rows g.Else-not-pieces_fine) (fine g.Else-not-tolerance_fine) in
    record { value = b; records_after = written_curves (σ g.Start) (given g.Start) a.tolerance e a.records.now _ b v.records_after }
