-- `judge_runs::boxing::put_box` meets its contract: four stores.
use native.Mathlib.Numerals.{add-one, add-two, add-three}
use native.Mathlib.Omega.{arith}
use lib.ListN.{length-set}
use mir.Facts.{to_z-of_z}
use Rattle.integers.proofs.Between.{number_fits}
use Rattle.judge_runs.proofs.boxing.put_box.Goals as goal

pub returns : goal.returns
returns c =
    let a = c.args in
    let f = c.struct_told-4-1.given in
    rw (
      to_z-of_z (number_fits a.b.x_low f.0.1),
      to_z-of_z (number_fits a.b.x_high f.1.0.1),
      to_z-of_z (number_fits a.b.y_low f.1.1.0.1),
      to_z-of_z (number_fits a.b.y_high f.1.1.1.0.1),
      add-one,
      add-two,
      add-three,
    )

pub bounds-list-at-2 : goal.bounds-list-at-2
bounds-list-at-2 c = simp length-set (omega arith)

pub bounds-list-at-3 : goal.bounds-list-at-3
bounds-list-at-3 c = simp length-set (omega arith)

pub bounds-list-at-4 : goal.bounds-list-at-4
bounds-list-at-4 c = simp length-set (omega arith)
