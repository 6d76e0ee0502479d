-- `outline_reading::outline_curves::next_at` meets its contract: the degree is at most 5, and its index is inside the list, so that the sum has room.
use native.Mathlib.Omega.{arith}
use Rattle.outline.proofs.Degrees.{degree_most, degree_inside}
use Rattle.outline_reading.proofs.outline_curves.next_at.Goals as goal

pub overflow_add-result : goal.overflow_add-result
overflow_add-result c = omega (arith, degree_inside c.args.ns.now c.args.at c.requires)

pub overflow_add-result-3 : goal.overflow_add-result-3
overflow_add-result-3 c =
    let ns = c.args.ns.now in
    let at = c.args.at in
    omega (arith, degree_inside ns at c.requires, degree_most ns at c.requires, c.degree_at-d.ensures)
