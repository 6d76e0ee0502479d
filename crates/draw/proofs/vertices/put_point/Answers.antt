-- `draw::vertices::put_point` meets its contract: two stores.
use Prim.Native.Nat.{◌*◌}
use native.Mathlib.Omega.{arith}
use lib.ListN.{length-set}
use mir.Facts.{to_z-of_z}
use Rattle.integers.proofs.Between.{number_fits}
use Rattle.draw.proofs.Writing.{two_sets}
use Rattle.draw.proofs.vertices.put_point.Goals as goal

pub bounds-list-at-2 : goal.bounds-list-at-2
bounds-list-at-2 c = simp length-set (omega arith)

pub returns : goal.returns
returns c =
    let a = c.args in
    let f = c.struct_told-2-1.given in
    two_sets a.list.now (2 * a.count) (to_z-of_z (number_fits a.p.x f.0.1)) (to_z-of_z (number_fits a.p.y f.1.0.1))
