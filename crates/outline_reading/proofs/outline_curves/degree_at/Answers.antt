-- `outline_reading::outline_curves::degree_at` meets its contract: a degree from 1 to 5 stands inside the list and is a natural.
use native.Mathlib.Omega.{arith}
use mir.Syntax.{w32}
use Rattle.setting.specs.Setting.{most_degree}
use Rattle.integers.specs.Entry.{entry}
use Rattle.integers.proofs.Ranges.{stored}
use Rattle.integers.proofs.Size.{Size}
use Rattle.integers.proofs.Machine.{machine, unsigned! }
use Rattle.outline.proofs.Degrees.{degree_most, degree_nonneg, degree_inside}
use Rattle.outline_reading.proofs.outline_curves.degree_at.Goals as goal

pub offset_bounds-ns-at : goal.offset_bounds-ns-at
offset_bounds-ns-at c = omega (arith, degree_inside c.args.ns.now c.args.at c.requires)

pub bounds-ns-at : goal.bounds-ns-at
bounds-ns-at c = degree_inside c.args.ns.now c.args.at c.requires

pub overflow_cast-result : goal.overflow_cast-result
overflow_cast-result c =
    let ns = c.args.ns.now in
    let at = c.args.at in
    let small : Size (entry ns at) = record { bound = most_degree; under = degree_most ns at c.requires } in
    unsigned! (stored w32 (entry ns at)) (search (machine, small) depth 40) tt (degree_nonneg ns at c.requires)
