-- The rows of one second difference. The loop's invariant: the numbers of the break points before i were put.
use Prim.Native.Nat.{◌*◌}
use Rattle.bound_rows.specs.Table.{row_from}
use Rattle.bound_row_table.specs.Inside.{copied_number, Put}
use Rattle.bound_row_table.proofs.put_row.Given as goal

abbrev pub invariant-loop-i : goal.invariant-loop-i
invariant-loop-i l = Put l.at (3 * l.i) (copied_number l.m (row_from l.m l.from)) l.initial.rows l.rows
