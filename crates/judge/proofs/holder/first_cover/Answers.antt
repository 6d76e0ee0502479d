-- `judge::holder::first_cover` meets its contract. The loop's invariant: none of the first i covers holds the point.
use mathlib.Core.Path.{◌≡◌, sym, ◌∙◌, ap, subst}
use Prim.Native.Nat.{◌+◌, ◌*◌, ◌<◌}
use native.Mathlib.Omega.{arith}
use borrow.Author.Rules.{rules}
use mir.Facts.{to_z-of_z}
use Rattle.setting.specs.Setting.{lists}
use Rattle.boxes.specs.Ranges.{place_of}
use Rattle.boxes.specs.Records.{box_at_index}
use Rattle.judge_cover.specs.Inside.{BoxInRange}
use Rattle.judge.proofs.Holders.{held_is, missed_none, missed_more, cover_found, all_missed, box_in_range}
use Rattle.judge.proofs.holder.first_cover.Goals as goal
use Rattle.judge.proofs.holder.first_cover.Goals.{In-loop-i}

pub loop-i-init : goal.loop-i-init
loop-i-init c = missed_none (lists c.args.m) c.args.leaves.now _ _ c.args.at

pub overflow_add-at : goal.overflow_add-at
overflow_add-at c = let h = c.requires.0.inside in search rules

pub box_in-first-requires : goal.box_in-first-requires
box_in-first-requires c = let h = c.requires.0.inside in search rules

pub overflow_add-at-in-loop-i : goal.overflow_add-at-in-loop-i
overflow_add-at-in-loop-i c = let h = c.requires.0.inside in search rules

pub box_in-second-requires : goal.box_in-second-requires
box_in-second-requires c = let h = c.requires.0.inside in search rules

pub holds-requires : goal.holds-requires
holds-requires c =
    let a = c.args in
    let h = c.loop-i-test.true in
    let i = c.loop-i.i in
    let n : a.at + (2 + 4 * (i + 1)) ≡ a.at + (6 + 4 * i) = omega arith in (
      rw c.box_in-first.ensures (box_in_range c.requires.0 i (omega arith)),
      rw c.box_in-second.ensures (subst (λ k. BoxInRange (box_at_index a.leaves.now k)) n (box_in_range c.requires.0 (i + 1) (omega arith))),
      rw (to_z-of_z c.ranges.x) c.requires.1.in_x,
      rw (to_z-of_z c.ranges.y) c.requires.1.in_y,
    )

in_turn : (c : In-loop-i) → c.loop-i.i < c.args.m
in_turn c = omega (arith, c.loop-i-test.true)

pub returns-then-holds : goal.returns-then-holds
returns-then-holds c =
    let a = c.args in
    let e = held_is (lists a.m) a.leaves.now _ _ a.at c.loop-i.i _ _ c.box_in-first.ensures
    c.box_in-second.ensures in
    let f = cover_found (lists a.m) a.leaves.now _ _ a.at c.loop-i.i c.loop-i.invariant (in_turn (goal.at.returns-then-holds c).In-loop-i)
    (sym e ∙ sym c.holds.ensures ∙ c.if-holds.true) in
    rw (to_z-of_z c.ranges.x, to_z-of_z c.ranges.y) at (sym (ap place_of f))

pub loop-i-preserved : goal.loop-i-preserved
loop-i-preserved c =
    let a = c.args in
    let e = held_is (lists a.m) a.leaves.now _ _ a.at c.loop-i.i _ _ c.box_in-first.ensures
    c.box_in-second.ensures in
    missed_more (lists a.m) a.leaves.now _ _ a.at c.loop-i.i c.loop-i.invariant (in_turn (goal.at.loop-i-preserved c).In-loop-i)
    (sym e ∙ sym c.holds.ensures ∙ c.if-holds.false)

pub returns : goal.returns
returns c =
    let a = c.args in
    let f = all_missed (lists a.m) a.leaves.now _ _ a.at c.loop-i.i c.loop-i.invariant c.loop-i-test.false in
    rw (to_z-of_z c.ranges.x, to_z-of_z c.ranges.y) at (sym (ap place_of f))

pub loop-i-smaller : goal.loop-i-smaller
loop-i-smaller c = omega arith
