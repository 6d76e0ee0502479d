-- `judge_points::answers::put_points` meets its contract. The loop's invariant: the numbers of the first i points stand.
use mathlib.Core.Path.{◌≡◌, ◌∙◌, ap}
use Prim.Native.Nat.{◌+◌, ◌*◌, ◌/◌, ◌≤◌}
use native.Mathlib.Omega.{arith}
use lib.ListN.{length}
use lib.Seq.{sets}
use mir.Facts.{to_z-of_z}
use borrow.Author.Rules.{rules}
use Rattle.integers.proofs.Between.{element_fits}
use Rattle.setting.specs.Setting.{lists}
use Rattle.judge_points.specs.Points.{point_numbers, numbers_to}
use Rattle.judge_points.specs.Inside.{three_numbers}
use Rattle.judge_points.proofs.PointNumbers.{written_none, written_more, written_length}
use Rattle.judge_points.proofs.answers.put_points.Goals as goal
use Rattle.judge_points.proofs.answers.put_points.Goals.{After-three_of-three, In-loop-i}

pub loop-i-init : goal.loop-i-init
loop-i-init c = let a = c.args in (omega arith, written_none (lists a.m) a.leaves.now a.points.now a.answers.now)

-- there is room for three numbers
room : (c : In-loop-i) → 3 * c.loop-i.i + 3 ≤ length c.loop-i.answers
room c =
    let a = c.args in
    let t = c.loop-i-test.true in
    let p = c.requires.3 in
    omega (arith, written_length (lists a.m) a.leaves.now a.points.now a.answers.now c.loop-i.i c.loop-i.invariant.1)

pub three_of-three-requires : goal.three_of-three-requires
three_of-three-requires c = (c.requires.0, c.requires.1, c.requires.2)

-- what the three numbers are
numbers : (c : After-three_of-three)
    → let a = c.args in
    three_numbers c.three_of-three.result ≡ point_numbers (lists a.m) a.leaves.now a.points.now c.loop-i.i
numbers c =
    let ps = c.args.points.now in
    let i = c.loop-i.i in
    rw (to_z-of_z (element_fits ps (2 * i) c.x-1.given), to_z-of_z (element_fits ps (2 * i + 1) c.y-1.given)) at c.three_of-three.ensures

pub loop-i-preserved : goal.loop-i-preserved
loop-i-preserved c =
    let a = c.args in
    let h = c.loop-i-test.true in (
      omega arith,
      written_more (lists a.m) a.leaves.now a.points.now a.answers.now c.loop-i.i (three_numbers c.three_of-three.result)
          c.loop-i.invariant.1 c.put_three.ensures (numbers (goal.at.loop-i-preserved c).After-three_of-three),
    )

pub shape_of-answers : goal.shape_of-answers
shape_of-answers c =
    let a = c.args in
    written_length (lists a.m) a.leaves.now a.points.now a.answers.now c.loop-i.i c.loop-i.invariant.1

pub returns : goal.returns
returns c =
    let a = c.args in
    let n : c.loop-i.i ≡ length a.points.now / 2 = omega (arith, c.loop-i-test.false, c.loop-i.invariant.0) in
    c.loop-i.invariant.1 ∙ ap (λ k. sets a.answers.now 0 (numbers_to (lists a.m) a.leaves.now a.points.now k)) n

pub overflow_mul-i : goal.overflow_mul-i
overflow_mul-i c = let h = room (goal.at.overflow_mul-i c).In-loop-i in search rules

pub put_three-requires : goal.put_three-requires
put_three-requires c = room (goal.at.put_three-requires c).In-loop-i

pub loop-i-smaller : goal.loop-i-smaller
loop-i-smaller c = let h = c.loop-i-test.true in omega arith
