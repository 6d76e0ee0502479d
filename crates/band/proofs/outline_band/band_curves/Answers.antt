-- The band of an outline without faults, with the rows of the number of pieces copied.
use mathlib.Core.Path.{◌≡◌, refl, ap}
use mathlib.Core.Bool.{Bool}
use mathlib.Core.List.{List}
use Prim.Native.Nat.{ℕ}
use mir.Facts.{to_z-of_z}
use lib.IntN.{ℤ}
use Rattle.setting.specs.Setting.{HasRows}
use Rattle.bound_row_table.specs.Inside.{Copied}
use Rattle.bound_row_table.proofs.Copying.{filled}
use Rattle.bound_pieces.specs.declared.Pieces.{Pieces}
use Rattle.bound_pieces.specs.Inside.{pieces_by, pieces_of, PiecesReady}
use Rattle.band.proofs.outline_band.band_curves.Goals as goal

-- what goes with m pieces has their number and the scale
number_is : (m : ℕ) (b : Bool) {p : Pieces} → p ≡ pieces_of m b → p.m ≡ m
unfolding pieces_of pieces_by
number_is m b e = ap (λ (q : Pieces). q.m) e

scale_is : (m : ℕ) (b : Bool) {p : Pieces} → p ≡ pieces_of m b → p.sixths ≡ b
unfolding pieces_of pieces_by
scale_is m b e = ap (λ (q : Pieces). q.sixths) e

ready : (m : ℕ) (b : Bool) {p : Pieces} {rows : List ℤ} → HasRows m → p ≡ pieces_of m b → Copied m rows → PiecesReady p rows
unfolding pieces_of pieces_by
ready m b h e copied = rw e (record { has = h; is = refl; copied = copied })

pub band_by-requires : goal.band_by-requires
band_by-requires c =
    let m = c.args.m in
    let b = c.sixths_of.result in
    let p = c.pieces_of-pieces.ensures in
    (ready m b c.requires.0 p c.put_rows.ensures, rw (number_is m b p, scale_is m b p, c.sixths_of.ensures) c.requires.1)

pub returns : goal.returns
returns c =
    let m = c.args.m in
    let b = c.sixths_of.result in
    let e = c.pieces_of-pieces.ensures in
    let both = rw (to_z-of_z c.ranges.t, number_is m b e, scale_is m b e, c.sixths_of.ensures) at c.band_by.ensures in
    record { value = both.value; records_after = both.records_after }

pub put_rows-requires : goal.put_rows-requires
put_rows-requires c = let h = c.requires.0 in (h, refl, filled h 297)
