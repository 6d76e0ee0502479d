-- What the gaps tell of a node, by the tolerance: beyond 2^27 every node meets it.
use mathlib.Core.Path.{subst}
use Prim.Native.Nat.{◌^◌}
use mir.Facts.{to_z-of_z}
use Rattle.integers.proofs.Ranges.{lt_yes}
use Rattle.integers.proofs.Machine.{flag! }
use Rattle.bound_coordinate.specs.Inside.{Small}
use Rattle.bound_coordinate.proofs.Coordinates.{bounded}
use Rattle.bound_pieces.specs.Inside.{setting_of}
use Rattle.bound_pieces.proofs.Boxes.{low_takes}
use Rattle.bound_pieces.proofs.Apart.{below_meets, above_meets, tolerance_small}
use Rattle.bound_tolerance.specs.Verdicts.{VerdictRight}
use Rattle.bound_tolerance.proofs.verdict_of.Goals as goal
use Rattle.bound_tolerance.proofs.verdict_of.Goals.{Else-t-gt134217728, then-t-ltminus134217728-via-then-t-ltminus134217728}
use Rattle.bound_tolerance.proofs.verdict_of.Goals.{then-t-ltminus134217728-via-else-t-ltminus134217728+then-t-gt134217728}

small : (c : Else-t-gt134217728) → Small (2 ^ 27) c.args.t
small c =
    let t = c.ranges.t in
    tolerance_small (flag! c.if-t-ltminus134217728.false (search (t, bounded) depth 40) tt) (flag! c.if-t-gt134217728.false (search (t, bounded) depth 40) tt)

pub returns-then-t-ltminus134217728 : goal.returns-then-t-ltminus134217728
returns-then-t-ltminus134217728 c =
    let a = c.args in
    let p = c.requires in
    let takes = low_takes a.curve.degree a.pieces.m p.3 in
    elim c.then-t-ltminus134217728.branch [
      | then-t-ltminus134217728-via-then-t-ltminus134217728 w ↦ below_meets (setting_of a.pieces) p.0 a.t a.depth a.curve p.2 takes
          (lt_yes (flag! w.if-t-ltminus134217728.true (search (c.ranges.t, bounded) depth 40) tt))
      | then-t-ltminus134217728-via-else-t-ltminus134217728+then-t-gt134217728 w ↦ above_meets (setting_of a.pieces) p.0 a.t a.depth a.curve p.2 takes
          (lt_yes (flag! w.if-t-gt134217728.true (search (c.ranges.t, bounded) depth 40) tt))
    ]

pub verdict_by-requires : goal.verdict_by-requires
verdict_by-requires c =
    let p = c.requires in
    (p.0, p.1, p.2, p.3, p.4, rw (to_z-of_z c.ranges.t) (small c))

pub returns : goal.returns
returns c =
    subst (λ t. VerdictRight (setting_of c.args.pieces) t c.args.depth c.args.curve c.verdict_by.result) (to_z-of_z c.ranges.t)
    c.verdict_by.ensures
