-- The tightest band, from the checks and from that of the curves.
use mathlib.Core.Path.{◌≡◌, sym, ◌∙◌}
use mathlib.Core.Bool.{true}
use lib.Dec.{lit≤}
use Rattle.std.proofs.lemmas.Result.{err_from_is_err_and}
use Rattle.setting.specs.Setting.{lists, pieces_fine}
use Rattle.setting.proofs.Pieces.{fine_has_rows}
use Rattle.outline.specs.Checks.{outlined}
use Rattle.band_passes.specs.Forms.{Outline}
use Rattle.band_banded.proofs.Answers.{Read, outline_read}
use Rattle.band_tightest.proofs.Answers.{answer_pieces, answer_faulty, answer_curves}
use Rattle.band_tighten.proofs.tightest_band.Goals as goal
use Rattle.band_tighten.proofs.tightest_band.Goals.{Else-not-pieces_fine, In_ok-curves}

pub returns-then-not-pieces_fine : goal.returns-then-not-pieces_fine
returns-then-not-pieces_fine c =
    let a = c.args in
    answer_pieces (lists a.m) a.outline.now a.leaves (sym c.if-not-pieces_fine.ensures)

-- past check 18
rows : (c : Else-not-pieces_fine) → pieces_fine c.args.m ≡ true
rows c = sym c.if-not-pieces_fine.ensures

pub returns-in_err-curves : goal.returns-in_err-curves
returns-in_err-curves c =
    let a = c.args in
    let p = err_from_is_err_and c.from_residual.result c.from_residual.ensures.1 in
    rw (p.1, p.2)
    (answer_faulty (lists a.m) a.outline.now a.leaves (rows (goal.at.returns-in_err-curves c).Else-not-pieces_fine) c.in_err-curves.ensures)

-- past the checks of the outline: its curves
read : (k : In_ok-curves) → let a = k.args in Read (lists a.m) Outline a.outline.now (outlined 4096 a.m a.outline.now) k.in_ok-curves.curves
read k = let a = k.args in outline_read 4096 1048576 a.m a.outline.now (lit≤ tt) k.in_ok-curves.ensures

pub tightest_curves-requires : goal.tightest_curves-requires
tightest_curves-requires c =
    (fine_has_rows c.args.m (rows (goal.at.tightest_curves-requires c).Else-not-pieces_fine), (read (goal.at.tightest_curves-requires c).In_ok-curves).readable)

pub returns : goal.returns
returns c =
    let a = c.args in
    c.tightest_curves.ensures
    ∙ answer_curves (lists a.m) a.outline.now a.leaves
    (record { pieces = rows (goal.at.returns c).Else-not-pieces_fine; outline = (read (goal.at.returns c).In_ok-curves).is })
