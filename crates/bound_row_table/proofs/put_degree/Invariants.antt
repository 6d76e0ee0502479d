-- The rows of some second differences. The loop's invariant: the rows before k were put.
use Rattle.bound_row_table.specs.Inside.{PutRows}
use Rattle.bound_row_table.proofs.put_degree.Given as goal

abbrev pub invariant-loop-k : goal.invariant-loop-k
invariant-loop-k l = PutRows l.at l.k l.m l.from l.initial.rows l.rows
