-- `judge_points::answers::three_of` meets its contract: check 11 of a coordinate, or what the search finds.
use mathlib.Core.Path.{◌≡◌, ◌∙◌, ap₂}
use mathlib.Core.List.{[], ◌∷◌}
use mathlib.Core.Option.{none}
use native.Mathlib.Nat.{le_refl}
use lib.ListN.{length}
use lib.IntN.{pos}
use mir.Syntax.{w32, w64}
use mir.Facts.{to_z-of_z, to_z_pos}
use borrow.Author.Rules.{rules}
use Rattle.integers.proofs.Ranges.{stored}
use Rattle.setting.specs.Setting.{lists}
use Rattle.refusals.specs.declared.Refusal.TheVariants.{PointX, PointY}
use Rattle.judge.specs.Judging.{on, off, judging_fault, FirstHolder}
use Rattle.judge.specs.Inside.{InRange}
use Rattle.judge.proofs.Holders.{in_ranges, found_off}
use Rattle.judge.proofs.Answers.{range_bad, range_fine, x_bad, y_bad, none_bad}
use Rattle.judge_points.proofs.PointNumbers.{numbers_refused, numbers_found, leaf_below}
use Rattle.judge_points.proofs.answers.three_of.Goals as goal
use Rattle.judge_points.proofs.answers.three_of.Goals.{Else-not-in_range-2, In-Some}

-- a point whose x, or whose y alone, fails check 11
pub returns-then-not-in_range : goal.returns-then-not-in_range
returns-then-not-in_range c =
    let a = c.args in
    let f = range_bad c.ranges.x c.in_range.ensures c.if-not-in_range.true-raw in
    numbers_refused (lists a.m) a.leaves.now a.x a.y PointX (x_bad _ a.leaves.now a.x a.y c.requires.0 c.requires.1 f)

pub returns-then-not-in_range-2 : goal.returns-then-not-in_range-2
returns-then-not-in_range-2 c =
    let a = c.args in
    let e = range_fine c.ranges.x c.in_range.ensures c.if-not-in_range.false-raw in
    let f = range_bad c.ranges.y c.in_range-2.ensures c.if-not-in_range-2.true-raw in
    numbers_refused (lists a.m) a.leaves.now a.x a.y PointY (y_bad _ a.leaves.now a.x a.y c.requires.0 c.requires.1 e f)

-- past both tests: no check fails, and the point is handed on in range
passed : (c : Else-not-in_range-2)
    → let a = c.args in
    (judging_fault (lists a.m) a.leaves.now a.x a.y ≡ none) × InRange (stored w32 a.x) (stored w32 a.y)
passed c =
    let a = c.args in
    let e = range_fine c.ranges.x c.in_range.ensures c.if-not-in_range.false-raw in
    let f = range_fine c.ranges.y c.in_range-2.ensures c.if-not-in_range-2.false-raw in
    (none_bad (lists a.m) a.leaves.now a.x a.y c.requires.0 c.requires.1 e f, in_ranges c.ranges.x c.ranges.y e f)

pub find_groups-requires : goal.find_groups-requires
find_groups-requires c = let p = c.requires in (p.0, p.1, (passed c).1, p.2)

-- the record and the cover that were found
holder : (c : In-Some)
    → let a = c.args in
    let h = c.in-Some.holder in
    FirstHolder (lists a.m) a.leaves.now a.x a.y h.leaf h.cover
holder c = rw (to_z-of_z c.ranges.x, to_z-of_z c.ranges.y) at c.in-Some.ensures

pub returns-in-Some : goal.returns-in-Some
returns-in-Some c =
    let h = c.in-Some.holder in
    let f = holder (goal.at.returns-in-Some c).In-Some in
    let l = leaf_below f in
    let t = f.cover in
    let m = c.requires.0.most in
    ap₂ (λ u v. pos 1 ∷ u ∷ v ∷ []) (to_z_pos w64 {n = h.leaf} (search rules)) (to_z_pos w64 {n = h.cover} (search rules))
    ∙ numbers_found (lists c.args.m) c.args.leaves.now c.args.x c.args.y (on h.leaf h.cover) (passed (goal.at.returns-in-Some c).Else-not-in_range-2).0 f

pub returns-in-None : goal.returns-in-None
returns-in-None c =
    let o = rw (to_z-of_z c.ranges.x, to_z-of_z c.ranges.y) at c.in-None.ensures in
    numbers_found (lists c.args.m) c.args.leaves.now c.args.x c.args.y off (passed (goal.at.returns-in-None c).Else-not-in_range-2).0
    (found_off o (le_refl (length c.args.leaves.now)))

pub overflow_cast-result : goal.overflow_cast-result
overflow_cast-result c = let h = leaf_below (holder (goal.at.overflow_cast-result c).In-Some) in search rules
