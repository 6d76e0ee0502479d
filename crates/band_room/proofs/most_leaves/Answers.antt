-- The most leaves of a curve, from G and M.
use mathlib.Core.Path.{refl}
use native.Mathlib.Nat.{mul-le-mul}
use native.Mathlib.Omega.{arith}
use mir.Facts.{to_z-of_z}
use Rattle.std.proofs.lemmas.Option.{IfSome_then}
use Rattle.bound_pieces.specs.Inside.{setting_of}
use Rattle.band_room.proofs.Sure.{reaches_few}
use Rattle.band_room.proofs.most_leaves.Goals as goal

pub gap_for-requires : goal.gap_for-requires
gap_for-requires c = let p = c.requires in (p.0, p.1, p.2.least, p.3)

pub largest_size-requires : goal.largest_size-requires
largest_size-requires c = let p = c.requires in (p.2, p.3)

pub overflow_mul-bend : goal.overflow_mul-bend
overflow_mul-bend c = omega (arith, mul-le-mul c.gap_for.ensures.1 c.largest_size.ensures.1)

pub leaves_by-requires : goal.leaves_by-requires
leaves_by-requires c = mul-le-mul c.gap_for.ensures.1 c.largest_size.ensures.1

pub returns : goal.returns
returns c =
    let p = c.requires in
    IfSome_then c.leaves_by.result (rw (to_z-of_z c.ranges.t) at c.leaves_by.ensures)
    (λ n r. reaches_few (setting_of c.args.pieces) p.0 c.args.t c.args.curve p.2 p.3 c.largest_size.result c.largest_size.ensures.0
    c.gap_for.ensures.0 refl r)
