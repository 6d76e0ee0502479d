-- The table in the code is the table.
use mathlib.Core.Path.{refl}
use Rattle.bound_rows.specs.Table.{table}
use Rattle.bound_row_table.proofs.table.table.Goals as goal

pub returns : goal.returns
unfolding table
returns c = refl
