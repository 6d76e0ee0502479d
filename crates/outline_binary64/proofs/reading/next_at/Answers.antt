-- `outline_binary64::reading::next_at` meets its contract: the degree is at most 5, and its index is inside the list, so that the sum has room.
use native.Mathlib.Omega.{arith}
use Rattle.outline.proofs.Degrees.{degree_most, degree_inside}
use Rattle.outline_binary64.specs.Lists.{wholes}
use Rattle.outline_binary64.proofs.Numbers.{wholes_length}
use Rattle.outline_binary64.proofs.reading.next_at.Goals as goal

pub overflow_add-result : goal.overflow_add-result
overflow_add-result c =
    let xs = c.args.xs.now in omega (arith, degree_inside (wholes xs) c.args.at c.requires, wholes_length xs)

pub overflow_add-result-3 : goal.overflow_add-result-3
overflow_add-result-3 c =
    let xs = c.args.xs.now in
    let at = c.args.at in
    omega (arith, degree_inside (wholes xs) at c.requires, wholes_length xs, degree_most (wholes xs) at c.requires, c.degree_at-d.ensures)
