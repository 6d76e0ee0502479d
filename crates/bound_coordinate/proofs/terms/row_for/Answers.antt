-- Where a difference begins to read its rows, by its sign.
use mathlib.Core.Path.{sym, ap}
use mathlib.Core.Bool.{Bool, cond}
use Prim.Native.Nat.{◌+◌}
use mir.Facts.{to_z-of_z}
use Rattle.bound_coordinate.proofs.terms.row_for.Goals as goal

pub returns-then-difference-lt0 : goal.returns-then-difference-lt0
returns-then-difference-lt0 c =
    let p = c.args.p in
    let t = rw (to_z-of_z c.ranges.difference) at c.if-difference-lt0.true in
    ap (λ (b : Bool). cond b (p + 1) p) (sym t)

pub returns-else-difference-lt0 : goal.returns-else-difference-lt0
returns-else-difference-lt0 c =
    let p = c.args.p in
    let t = rw (to_z-of_z c.ranges.difference) at c.if-difference-lt0.false in
    ap (λ (b : Bool). cond b (p + 1) p) (sym t)
