-- The gap at a break point: the high less the low, which is not above it, over m.
use mathlib.Core.Path.{◌≡◌}
use Prim.Native.Nat.{◌+◌, ◌*◌, ◌/◌, ◌≤◌}
use lib.IntN.{nat_abs, ◌-ℤ◌}
use mir.Syntax.{w64}
use Rattle.integers.specs.Entry.{entry}
use Rattle.integers.proofs.Ranges.{stored}
use Rattle.integers.proofs.Machine.{fits!, by!, unsigned! }
use Rattle.bound_coordinate.proofs.Coordinates.{bounded}
use Rattle.bound_pieces.specs.Inside.{gap_at}
use Rattle.bound_pieces.proofs.PiecesLaws.{rows_most, gap_nonneg, gap_is, gap_under}
use Rattle.bound_pieces.proofs.gap_at.Goals as goal

pub overflow_sub-result : goal.overflow_sub-result
overflow_sub-result c = let p = c.requires in fits! (search (rows_most p.0 p.1, bounded) depth 40) tt

pub overflow_cast-result : goal.overflow_cast-result
overflow_cast-result c =
    let p = c.requires in
    let from = c.start_of-start in
    let rows = c.args.rows.now in
    let at = from.result + 3 * c.args.i in
    unsigned! (stored w64 (stored w64 (entry rows at) -ℤ stored w64 (entry rows (at + 1))))
    (search (rows_most p.0 p.1, bounded) depth 40) tt (gap_nonneg p.0 p.1 p.2 p.3 p.5 p.4 from.ensures.0)

pub returns : goal.returns
returns c =
    let a = c.args in
    let p = c.requires in
    let from = c.start_of-start in
    let rows = a.rows.now in
    let at = from.result + 3 * a.i in
    by! (λ z. (nat_abs z / a.m ≡ gap_at a.m a.degree a.k a.i) × (nat_abs z / a.m ≤ 18000))
    {z = stored w64 (stored w64 (entry rows at) -ℤ stored w64 (entry rows (at + 1)))} (search (rows_most p.0 p.1, bounded) depth 40) tt (
      gap_is p.0 p.1 p.2 p.3 p.5 p.4 from.ensures.0,
      gap_under p.0 p.1 p.2 p.3 p.5 p.4 from.ensures.0,
    )
