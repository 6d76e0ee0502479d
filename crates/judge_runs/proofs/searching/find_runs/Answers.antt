-- `judge_runs::searching::find_runs` meets its contract. The loop's invariant: no record of the runs before k holds the point.
use mathlib.Core.Path.{sym, ◌∙◌, subst}
use Prim.Native.Nat.{◌*◌, ◌<◌}
use native.Mathlib.Omega.{arith}
use borrow.Author.Rules.{rules}
use lib.ListN.{length}
use mir.Syntax.{w32}
use mir.Facts.{to_z-of_z}
use Rattle.integers.proofs.Ranges.{stored}
use Rattle.setting.specs.Setting.{lists, record_length}
use Rattle.judge.proofs.Judgements.{whole_of}
use Rattle.judge_runs.specs.Inside.{RunBox, RunEnd}
use Rattle.judge_runs.proofs.Runs.{end_whole}
use Rattle.judge_runs.proofs.Passed.{SearchedRuns, SearchedTo, run_searched, search_begun, search_next, search_to, left, left_less, found_none, found_farther}
use Rattle.judge_runs.proofs.searching.find_runs.Goals as goal
use Rattle.judge_runs.proofs.searching.find_runs.Goals.{In-Some, After-run_end}

pub loop-next-init : goal.loop-next-init
loop-next-init c =
    search_to c.requires.3 c.next_box-next.result
    (search_begun c.requires.3.order (rw (to_z-of_z c.ranges.x, to_z-of_z c.ranges.y) c.requires.4)) c.next_box-next.ensures

-- the search stands at run k
reached : (c : In-Some)
    → let a = c.args in
    (c.in-Some.k < a.to) × SearchedRuns (lists a.m) a.leaves.now (stored w32 a.x) (stored w32 a.y) a.run a.from a.to c.in-Some.k
reached c =
    let a = c.args in
    subst (λ o. SearchedTo (lists a.m) a.leaves.now (stored w32 a.x) (stored w32 a.y) a.run a.from a.to o) c.in-Some.is c.loop-next.invariant

here : (c : In-Some)
    → let a = c.args in RunBox (lists a.m) a.leaves.now a.run a.boxes.now c.in-Some.k
here c = let r = reached c in c.requires.3.each c.in-Some.k r.1.after r.0

pub run_start-at-requires : goal.run_start-at-requires
run_start-at-requires c = let h = (here c).begins in search rules

-- where run k ends, from where it begins
ends : (c : After-run_end) → let a = c.args in RunEnd (length a.leaves.now) (a.run * c.in-Some.k) a.run c.run_end.result
ends c = let a = c.args in subst (λ n. RunEnd (length a.leaves.now) n a.run c.run_end.result) c.run_start-at.ensures c.run_end.ensures

pub run_end-requires : goal.run_end-requires
run_end-requires c = let h = (here (goal.at.run_end-requires c).In-Some).begins in omega (arith, h, c.run_start-at.ensures)

pub find_to-holder-requires : goal.find_to-holder-requires
find_to-holder-requires c =
    let σ = lists c.args.m in
    let e = ends (goal.at.find_to-holder-requires c).After-run_end in
    let s = (reached (goal.at.find_to-holder-requires c).In-Some).1.searched in (
      c.requires.0,
      c.requires.1,
      rw (to_z-of_z c.ranges.x, to_z-of_z c.ranges.y) c.requires.2,
      record {
        whole = end_whole (record_length σ) e s.begins c.requires.3.whole (whole_of σ (length c.args.leaves.now) c.requires.1.whole);
        within = e.inside;
      },
      rw c.run_start-at.ensures s,
    )

pub returns-then-is_some : goal.returns-then-is_some
returns-then-is_some c =
    let a = c.args in
    let f = rw (to_z-of_z c.ranges.x, to_z-of_z c.ranges.y) at c.find_to-holder.ensures in
    found_farther (lists a.m) a.leaves.now a.x a.y _ c.find_to-holder.result f (sym c.is_some.ensures ∙ c.if-is_some.true) (a.run * a.to)

pub next_box-next-requires-in-Some : goal.next_box-next-requires-in-Some
next_box-next-requires-in-Some c =
    let r = reached (goal.at.next_box-next-requires-in-Some c).In-Some in
    (c.requires.3.room, omega (arith, r.0))

-- run k is searched to its end
pub loop-next-preserved : goal.loop-next-preserved
loop-next-preserved c =
    let a = c.args in
    let r = reached (goal.at.loop-next-preserved c).In-Some in
    let n = found_none (lists a.m) a.leaves.now _ _ _ c.find_to-holder.result c.find_to-holder.ensures (sym c.is_some.ensures ∙ c.if-is_some.false) in
    search_to c.requires.3 c.next_box-next-in-Some.result
    (search_next r.1 r.0 (run_searched a.run c.in-Some.k c.requires.3.whole (ends (goal.at.loop-next-preserved c).After-run_end) r.1.searched.begins n))
    c.next_box-next-in-Some.ensures

pub loop-next-smaller : goal.loop-next-smaller
loop-next-smaller c =
    let a = c.args in
    let r = reached (goal.at.loop-next-smaller c).In-Some in
    subst (λ o. left a.to c.next_box-next-in-Some.result < left a.to o) (sym c.in-Some.is)
    (left_less a.boxes.now _ _ c.in-Some.k a.to c.next_box-next-in-Some.result c.next_box-next-in-Some.ensures r.0)

pub returns : goal.returns
returns c =
    let a = c.args in
    let s = subst (λ o. SearchedTo (lists a.m) a.leaves.now (stored w32 a.x) (stored w32 a.y) a.run a.from a.to o) c.in_default.is c.loop-next.invariant in
    rw (to_z-of_z c.ranges.x, to_z-of_z c.ranges.y) at s.searched
