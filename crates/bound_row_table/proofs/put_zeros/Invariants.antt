-- Zeros. The loop's invariant: i of them were put.
use lib.IntN.{pos}
use Rattle.bound_row_table.specs.Inside.{Put}
use Rattle.bound_row_table.proofs.put_zeros.Given as goal

abbrev pub invariant-loop-i : goal.invariant-loop-i
invariant-loop-i l = Put l.at l.i (λ p. pos 0) l.initial.rows l.rows
