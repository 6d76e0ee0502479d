-- Foretelling, from the checks and the depths of the curves.
use mathlib.Core.Path.{◌≡◌, sym, ◌∙◌, ap, subst}
use mathlib.Core.Bool.{true}
use Prim.Native.Nat.{◌^◌, ◌≤◌}
use lib.Dec.{lit≤}
use lib.IntN.{ℤ, pos, nat_abs}
use lib.Signed.{◌≤ℤ◌, pos-nat_abs, yes_non_neg}
use mir.Syntax.{w32}
use mir.Val.{SFits}
use mir.Facts.{to_z-of_z}
use Rattle.std.proofs.lemmas.Result.{err_from_is_err_and}
use Rattle.integers.proofs.Order.{nonneg, pos_le, le_pos, ≤ℤ_trans}
use Rattle.integers.proofs.Ranges.{stored}
use Rattle.integers.proofs.Between.{between_low, between_high}
use Rattle.integers.proofs.Machine.{machine, unsigned! }
use Rattle.setting.specs.Setting.{lists, pieces_fine}
use Rattle.setting.proofs.Pieces.{fine_has_rows}
use Rattle.outline.specs.Checks.{tolerance_fine, outlined}
use Rattle.band_passes.specs.Forms.{Outline}
use Rattle.band_passes.specs.Inside.{curves_in}
use Rattle.band_passes.proofs.Reading.{curves_count}
use Rattle.outline.specs.Curves.{next_at, curve_at}
use Rattle.band_banded.proofs.Answers.{Read, outline_read}
use Rattle.band_foretold.proofs.Answering.{foretold_pieces, unaltered, foretold_tolerance, foretold_faulty}
use Rattle.band_foretold.proofs.Answering.{foretold_few, foretold_curves, written_curves}
use Rattle.band_foretell.proofs.foretell.Goals as goal
use Rattle.band_foretell.proofs.foretell.Goals.{Else-not-pieces_fine, Else-not-tolerance_fine, In_ok-curves}

pub returns-then-not-pieces_fine : goal.returns-then-not-pieces_fine
returns-then-not-pieces_fine c =
    let a = c.args in
    let e = foretold_pieces (lists a.m) a.outline.now a.tolerance _ (sym c.if-not-pieces_fine.ensures) in
    record { value = e; depths_after = unaltered (lists a.m) a.outline.now a.tolerance a.depths.now e }

-- past check 18
rows : (c : Else-not-pieces_fine) → pieces_fine c.args.m ≡ true
rows c = sym c.if-not-pieces_fine.ensures

pub returns-then-not-tolerance_fine : goal.returns-then-not-tolerance_fine
returns-then-not-tolerance_fine c =
    let a = c.args in
    let e = foretold_tolerance (lists a.m) a.outline.now a.tolerance (rows (goal.at.returns-then-not-tolerance_fine c).Else-not-pieces_fine) _
    (rw (to_z-of_z c.ranges.tolerance) at (sym c.if-not-tolerance_fine.ensures)) in
    record { value = e; depths_after = unaltered (lists a.m) a.outline.now a.tolerance a.depths.now e }

-- past check 1
fine : (c : Else-not-tolerance_fine) → tolerance_fine c.args.tolerance ≡ true
fine c = rw (to_z-of_z c.ranges.tolerance) at (sym c.if-not-tolerance_fine.ensures)

pub returns-in_err-curves : goal.returns-in_err-curves
returns-in_err-curves c =
    let a = c.args in
    let p = err_from_is_err_and c.from_residual.result c.from_residual.ensures.1 in
    let e = foretold_faulty (lists a.m) a.outline.now a.tolerance (rows (goal.at.returns-in_err-curves c).Else-not-pieces_fine)
    (fine (goal.at.returns-in_err-curves c).Else-not-tolerance_fine) _ c.in_err-curves.ensures in
    record { value = rw (p.1, p.2) e; depths_after = unaltered (lists a.m) a.outline.now a.tolerance a.depths.now e }

-- past the checks of the outline: its curves
abbrev read : (k : In_ok-curves) → let a = k.args in Read (lists a.m) Outline a.outline.now (outlined 4096 a.m a.outline.now) k.in_ok-curves.curves
read k = let a = k.args in outline_read 4096 1048576 a.m a.outline.now (lit≤ tt) k.in_ok-curves.ensures

pub returns-then-depths-curves : goal.returns-then-depths-curves
returns-then-depths-curves c =
    let a = c.args in
    let n = c.in_ok-curves.curves in
    let e = foretold_few (lists a.m) a.outline.now a.tolerance (rows (goal.at.returns-then-depths-curves c).Else-not-pieces_fine) (fine (goal.at.returns-then-depths-curves c).Else-not-tolerance_fine)
    (curves_in Outline a.outline.now n) (read (goal.at.returns-then-depths-curves c).In_ok-curves).is (curves_count (curve_at a.outline.now) (next_at a.outline.now) n 0)
    _ c.if-depths-curves.true in
    record { value = e; depths_after = unaltered (lists a.m) a.outline.now a.tolerance a.depths.now e }

-- a tolerance in its range is the number that it is cast to
module _ {T : ℤ} (fits : SFits w32 T) (h : tolerance_fine T ≡ true) where
  not_negative : pos 0 ≤ℤ T
  not_negative = ≤ℤ_trans (pos_le {m = 0} {n = 2} (lit≤ tt)) (between_low (pos 2) (pos 1048576) T h)

  cast_is : pos (nat_abs (stored w32 T)) ≡ T
  cast_is = ap (λ z. pos (nat_abs z)) (to_z-of_z fits) ∙ pos-nat_abs T (yes_non_neg not_negative)

  cast-under : nat_abs (stored w32 T) ≤ 2 ^ 20
  cast-under = le_pos (subst (λ z. z ≤ℤ pos (2 ^ 20)) (sym cast_is) (between_high (pos 2) (pos 1048576) T h))

pub overflow_cast-tolerance : goal.overflow_cast-tolerance
overflow_cast-tolerance c =
    unsigned! (stored w32 c.args.tolerance) (search (machine, c.ranges.tolerance) depth 40) tt
    (nonneg (not_negative c.ranges.tolerance (fine (goal.at.overflow_cast-tolerance c).Else-not-tolerance_fine)))

pub depths_of-requires : goal.depths_of-requires
depths_of-requires c =
    let a = c.args in (
      fine_has_rows a.m (rows (goal.at.depths_of-requires c).Else-not-pieces_fine),
      (read (goal.at.depths_of-requires c).In_ok-curves).readable,
      cast-under c.ranges.tolerance (fine (goal.at.depths_of-requires c).Else-not-tolerance_fine),
      c.if-depths-curves.false,
    )

pub returns : goal.returns
returns c =
    let a = c.args in
    let r = rows (goal.at.returns c).Else-not-pieces_fine in
    let t = fine (goal.at.returns c).Else-not-tolerance_fine in
    let is = (read (goal.at.returns c).In_ok-curves).is in
    let cs = curves_in Outline a.outline.now c.in_ok-curves.curves in
    let w = rw (cast_is c.ranges.tolerance t) at c.depths_of.ensures in
    let b = w.value ∙ foretold_curves (lists a.m) a.outline.now a.tolerance r t cs is _ in
    record { value = b; depths_after = written_curves (lists a.m) a.outline.now a.tolerance r t cs is a.depths.now _ b w.depths_after }
