-- `draw::vertices::put_unless` meets its contract.
use mathlib.Core.Path.{sym, ◌∙◌}
use Prim.Native.Nat.{◌*◌}
use Rattle.draw.proofs.Spans.{points_equal}
use Rattle.draw.proofs.Writing.{unless_same_law, unless_new}
use Rattle.draw.proofs.vertices.put_unless.Goals as goal

pub returns-then-eq : goal.returns-then-eq
returns-then-eq c =
    let a = c.args in
    let e = unless_same_law a.p a.q a.list.now (2 * a.count) a.count (sym (c.eq.ensures ∙ points_equal a.p a.q) ∙ c.if-eq.true) in
    record { value = e.0; list_after = e.1 }

pub returns : goal.returns
returns c =
    let a = c.args in
    let e = unless_new a.p a.q a.list.now (2 * a.count) a.count (sym (c.eq.ensures ∙ points_equal a.p a.q) ∙ c.if-eq.false) c.put_point.ensures in
    record { value = e.0; list_after = e.1 }
