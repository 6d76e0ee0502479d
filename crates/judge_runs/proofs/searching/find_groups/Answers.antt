-- `judge_runs::searching::find_groups` meets its contract. The loop's invariant: no record of the groups before c holds the point.
use mathlib.Core.Path.{sym, ◌∙◌, subst}
use Prim.Native.Nat.{◌*◌, ◌<◌}
use native.Mathlib.Nat.{mul-zero, mul_assoc}
use native.Mathlib.Omega.{arith}
use borrow.Author.Rules.{rules}
use lib.ListN.{length}
use mir.Syntax.{w32}
use mir.Facts.{to_z-of_z}
use Rattle.integers.proofs.Ranges.{stored}
use Rattle.setting.specs.Setting.{lists}
use Rattle.judge.specs.Inside.{Searched}
use Rattle.judge.proofs.Judgements.{whole_of}
use Rattle.judge.proofs.Holders.{searched_none, searched_back}
use Rattle.judge_runs.proofs.Groups.{runs_in, groups_to, group_searched, groups_all}
use Rattle.judge_runs.proofs.Passed.{SearchedRuns, SearchedTo, search_begun, search_next, search_to, left, left_less, found_none, found_farther}
use Rattle.judge_runs.proofs.searching.find_groups.Goals as goal
use Rattle.judge_runs.proofs.searching.find_groups.Goals.{In-Some}

pub loop-next-init : goal.loop-next-init
loop-next-init c =
    let a = c.args in
    let b = c.requires.3 in
    search_to (groups_to b.each_run b.each_group) c.next_box-next.result
    (search_begun (omega arith) (rw (mul-zero (a.cut.run * 64)) (searched_none (lists a.m) a.leaves.now (stored w32 a.x) (stored w32 a.y))))
    c.next_box-next.ensures

-- the search stands at group c
reached : (c : In-Some)
    → let a = c.args in
    (c.in-Some.c < a.cut.groups)
    × SearchedRuns (lists a.m) a.leaves.now (stored w32 a.x) (stored w32 a.y) (a.cut.run * 64) 0 a.cut.groups c.in-Some.c
reached c =
    let a = c.args in
    subst (λ o. SearchedTo (lists a.m) a.leaves.now (stored w32 a.x) (stored w32 a.y) (a.cut.run * 64) 0 a.cut.groups o) c.in-Some.is
    c.loop-next.invariant

pub run_end-to-requires : goal.run_end-to-requires
run_end-to-requires c =
    let r = reached (goal.at.run_end-to-requires c).In-Some in
    let h = (c.requires.3.each_group.each c.in-Some.c r.0).begins in
    omega arith

pub find_runs-holder-requires : goal.find_runs-holder-requires
find_runs-holder-requires c =
    let a = c.args in
    let r = reached (goal.at.find_runs-holder-requires c).In-Some in (
      c.requires.0,
      c.requires.1,
      rw (to_z-of_z c.ranges.x, to_z-of_z c.ranges.y) c.requires.2,
      runs_in c.requires.3.each_run c.requires.3.each_group c.in-Some.c r.0 c.run_end-to.ensures,
      subst (λ k. Searched (lists a.m) a.leaves.now (stored w32 a.x) (stored w32 a.y) k) (mul_assoc a.cut.run 64 c.in-Some.c) r.1.searched,
    )

pub returns-then-is_some : goal.returns-then-is_some
returns-then-is_some c =
    let a = c.args in
    let f = rw (to_z-of_z c.ranges.x, to_z-of_z c.ranges.y) at c.find_runs-holder.ensures in
    found_farther (lists a.m) a.leaves.now a.x a.y _ c.find_runs-holder.result f (sym c.is_some.ensures ∙ c.if-is_some.true) (length a.leaves.now)

pub next_box-next-requires-in-Some : goal.next_box-next-requires-in-Some
next_box-next-requires-in-Some c =
    let r = reached (goal.at.next_box-next-requires-in-Some c).In-Some in
    (c.requires.3.each_group.room, omega (arith, r.0))

pub loop-next-preserved : goal.loop-next-preserved
loop-next-preserved c =
    let a = c.args in
    let b = c.requires.3 in
    let r = reached (goal.at.loop-next-preserved c).In-Some in
    let n = found_none (lists a.m) a.leaves.now _ _ _ c.find_runs-holder.result c.find_runs-holder.ensures (sym c.is_some.ensures ∙ c.if-is_some.false) in
    search_to (groups_to b.each_run b.each_group) c.next_box-next-in-Some.result
    (search_next r.1 r.0 (group_searched b.each_run b.each_group c.in-Some.c r.0 c.run_end-to.ensures n)) c.next_box-next-in-Some.ensures

pub loop-next-smaller : goal.loop-next-smaller
loop-next-smaller c =
    let a = c.args in
    let n = a.cut.groups in
    let r = reached (goal.at.loop-next-smaller c).In-Some in
    subst (λ o. left n c.next_box-next-in-Some.result < left n o) (sym c.in-Some.is)
    (left_less a.groups.now _ _ c.in-Some.c n c.next_box-next-in-Some.result c.next_box-next-in-Some.ensures r.0)

pub returns : goal.returns
returns c =
    let a = c.args in
    let b = c.requires.3 in
    let r = subst (λ o. SearchedTo (lists a.m) a.leaves.now (stored w32 a.x) (stored w32 a.y) (a.cut.run * 64) 0 a.cut.groups o) c.in_default.is
    c.loop-next.invariant in
    let d = rw (to_z-of_z c.ranges.x, to_z-of_z c.ranges.y) at r.searched in
    searched_back d (whole_of (lists a.m) (length a.leaves.now) c.requires.1.whole) (groups_all b.each_run b.each_group)

pub overflow_mul-from : goal.overflow_mul-from
overflow_mul-from c = let h = c.requires.3.each_group.few in let t = (reached c).0 in search rules
