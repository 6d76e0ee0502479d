-- `outline_reading::curve_values::curve_at` meets its contract: all coordinates are inside the list, x from `at + 1` on and y from `at + 2` on.
use Prim.Native.Nat.{◌+◌, ◌≤◌}
use native.Mathlib.Omega.{arith}
use lib.ListN.{length}
use Rattle.setting.specs.Setting.{most_degree}
use Rattle.outline.specs.Curves.{coordinates, curve_at}
use Rattle.outline.proofs.Degrees.{degree_least, degree_most}
use Rattle.outline_reading.proofs.curve_values.curve_at.Goals as goal
use Rattle.outline_reading.proofs.curve_values.curve_at.Goals.{After-degree_at-degree}

-- the degree as the code has it, and where the curve ends
room : (c : After-degree_at-degree)
    → (1 ≤ c.degree_at-degree.result) × (c.degree_at-degree.result ≤ most_degree) ×
    (c.args.at + 1 + coordinates c.degree_at-degree.result ≤ length c.args.ns.now)
room c = rw c.degree_at-degree.ensures (
  degree_least c.args.ns.now c.args.at c.requires.0,
  degree_most c.args.ns.now c.args.at c.requires.0,
  c.requires.1,
)

pub overflow_add-at : goal.overflow_add-at
overflow_add-at c = omega (arith, room c)

pub values_at-x-requires : goal.values_at-x-requires
values_at-x-requires c = omega (arith, room c)

pub overflow_add-at-2 : goal.overflow_add-at-2
overflow_add-at-2 c = omega (arith, room (goal.at.overflow_add-at-2 c).After-degree_at-degree)

pub values_at-y-requires : goal.values_at-y-requires
values_at-y-requires c = omega (arith, room (goal.at.values_at-y-requires c).After-degree_at-degree)

pub returns : goal.returns
unfolding curve_at
returns c = rw (c.values_at-y.ensures, c.values_at-x.ensures, c.degree_at-degree.ensures)
