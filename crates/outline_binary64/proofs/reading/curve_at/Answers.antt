-- `outline_binary64::reading::curve_at` meets its contract: all coordinates are inside the list, x from `at + 1` on and y from `at + 2` on.
use Prim.Native.Nat.{◌+◌, ◌≤◌}
use native.Mathlib.Omega.{arith}
use lib.Dec.{lit≤}
use lib.ListN.{length}
use Rattle.setting.specs.Setting.{most_degree}
use Rattle.outline.specs.Curves.{coordinates, curve_at}
use Rattle.outline.proofs.Degrees.{degree_least, degree_most}
use Rattle.outline_binary64.specs.Lists.{wholes}
use Rattle.outline_binary64.proofs.Numbers.{wholes_length, stands_read}
use Rattle.outline_binary64.proofs.reading.curve_at.Goals as goal
use Rattle.outline_binary64.proofs.reading.curve_at.Goals.{After-degree_at-degree}

-- the degree as the code has it, and where the curve ends
room : (c : After-degree_at-degree) → (1 ≤ c.degree_at-degree.result) × (c.degree_at-degree.result ≤ most_degree) ×
    (c.args.at + 1 + coordinates c.degree_at-degree.result ≤ length (wholes c.args.xs.now))
room c =
    let ns = wholes c.args.xs.now in
    rw c.degree_at-degree.ensures (degree_least ns c.args.at c.requires.degree, degree_most ns c.args.at c.requires.degree, c.requires.ends)

pub overflow_add-at : goal.overflow_add-at
overflow_add-at c = omega (arith, room c, wholes_length c.args.xs.now)

pub values_at-x-requires : goal.values_at-x-requires
values_at-x-requires c =
    ((room c).0, (room c).1, stands_read c.requires c.degree_at-degree.ensures 1 (lit≤ tt) (lit≤ tt))

pub overflow_add-at-2 : goal.overflow_add-at-2
overflow_add-at-2 c = omega (arith, room (goal.at.overflow_add-at-2 c).After-degree_at-degree, wholes_length c.args.xs.now)

pub values_at-y-requires : goal.values_at-y-requires
values_at-y-requires c =
    ((room (goal.at.values_at-y-requires c).After-degree_at-degree).0, (room (goal.at.values_at-y-requires c).After-degree_at-degree).1, stands_read c.requires c.degree_at-degree.ensures 2 (lit≤ tt) (lit≤ tt))

pub returns : goal.returns
unfolding curve_at
returns c = rw (c.values_at-y.ensures, c.values_at-x.ensures, c.degree_at-degree.ensures)

pub degree_at-degree-requires : goal.degree_at-degree-requires
degree_at-degree-requires c = c.requires.degree
