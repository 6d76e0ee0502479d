-- The boxes at the break points of a curve of degree 4 or 5: the pairs of one coordinate, then those of the other between them.
use mathlib.Core.Path.{refl}
use Prim.Native.Nat.{◌*◌, ◌≤◌}
use native.Mathlib.Nat.{mul-le-mul}
use native.Mathlib.Omega.{arith}
use borrow.Author.Rules.{rules}
use Rattle.setting.specs.Setting.{lists}
use Rattle.setting.proofs.Depths.{deepest_high}
use Rattle.curve_nodes.specs.Inside.{Halvable}
use Rattle.curve_nodes.proofs.Sizes.{sized_halvable}
use Rattle.bound_coordinate.proofs.Chosen.{higher_computable}
use Rattle.band_records.proofs.Writing.{both_written}
use Rattle.band_records.proofs.higher.put_higher_boxes.Goals as goal
use Rattle.band_records.proofs.higher.put_higher_boxes.Goals.{Start}

halvable : (s : Start) → Halvable s.args.curve
halvable s = let p = s.requires in sized_halvable (rw (deepest_high s.args.curve.degree p.4) p.6) p.3

shallow : (s : Start) → s.args.curve.degree * s.args.depth ≤ 20
shallow s = mul-le-mul s.requires.3.most s.requires.6

pub overflow_mul-shift : goal.overflow_mul-shift
overflow_mul-shift c = omega (arith, shallow c)

pub higher_of-requires : goal.higher_of-requires
higher_of-requires c =
    let h = halvable (goal.at.higher_of-requires c).Start in
    let l = shallow (goal.at.higher_of-requires c).Start in
    search rules

pub put_coordinate-requires : goal.put_coordinate-requires
put_coordinate-requires c =
    let p = c.requires in
    (omega arith, rw c.higher_of.ensures (higher_computable p.1 p.2 p.4 p.3.most p.6 (search rules) p.7))

pub higher_of-requires-2 : goal.higher_of-requires-2
higher_of-requires-2 c =
    let h = halvable (goal.at.higher_of-requires-2 c).Start in
    let l = shallow (goal.at.higher_of-requires-2 c).Start in
    search rules

pub put_coordinate-requires-2 : goal.put_coordinate-requires-2
put_coordinate-requires-2 c =
    let p = c.requires in
    (omega arith, rw c.higher_of-2.ensures (higher_computable p.1 p.2 p.4 p.3.most p.6 (search rules) p.7))

pub returns : goal.returns
returns c =
    let a = c.args in
    let p = c.requires in
    both_written (lists a.m) p.1 a.depth a.curve p.3 p.2 p.4 refl p.5 c.higher_of.ensures c.higher_of-2.ensures
    a.records.now a.at c.put_coordinate.ensures c.put_coordinate-2.ensures
