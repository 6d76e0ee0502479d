-- `judge::holder::find_to` meets its contract. The loop's invariant: no cover of the records before `at` holds the point.
use mathlib.Core.Path.{◌≡◌, sym, ◌∙◌, ap₂, subst}
use Prim.Native.Nat.{◌/◌}
use native.Mathlib.Omega.{arith}
use borrow.Author.Rules.{rules}
use lib.IntN.{ℤ}
use mir.Syntax.{w32, w64}
use mir.Val.{SFits}
use mir.Facts.{to_z-of_z}
use Rattle.integers.proofs.Ranges.{stored}
use Rattle.setting.specs.Setting.{lists}
use Rattle.boxes.specs.Ranges.{place_of}
use Rattle.setting.proofs.Pieces.{record_length_is}
use Rattle.judge.specs.Judging.{FirstHolder}
use Rattle.judge.specs.Inside.{RecordAt, holder_at, Searched}
use Rattle.boxes.proofs.Faults.{place_some, place_none}
use Rattle.judge.proofs.Passing.{widened}
use Rattle.judge.proofs.Holders.{record_passed, searched_more, searched_over, searched_rest, found_on}
use Rattle.judge.proofs.holder.find_to.Goals as goal
use Rattle.judge.proofs.holder.find_to.Goals.{After-first_cover, In-Some}

pub loop-at-init : goal.loop-at-init
loop-at-init c = rw (to_z-of_z c.ranges.x, to_z-of_z c.ranges.y) c.requires.4

pub next_near-requires : goal.next_near-requires
next_near-requires c = (c.requires.0, c.requires.3, c.loop-at.invariant.begins)

-- the search goes on at the record that is near
reached : (c : In-Some)
    → let a = c.args in Searched (lists a.m) a.leaves.now (stored w32 a.x) (stored w32 a.y) c.in-Some.at
reached c = searched_over c.loop-at.invariant c.in-Some.ensures.1

-- the record there
here : (c : In-Some)
    → RecordAt (lists c.args.m) c.args.leaves.now c.in-Some.at
here c =
    let e = c.requires.3.within in
    let l = c.in-Some.ensures.0 in
    record_passed c.requires.1 c.in-Some.at (reached c).begins (omega arith)

pub first_cover-requires : goal.first_cover-requires
first_cover-requires c =
    let f = c.ranges in
    (here (goal.at.first_cover-requires c).In-Some, rw (c.from.ensures, c.from-in-Some.ensures, widened f.x, widened f.y) c.requires.2)

-- the numbers of the point, read as of 64 bits
wide : {z r : ℤ} → SFits w32 z → r ≡ stored w32 z → stored w64 r ≡ stored w32 z
wide {z} {r} f e = rw e (widened f ∙ sym (to_z-of_z f))

-- what the covers of the record say of the point, in the numbers as they are kept
covered : (c : After-first_cover)
    → let a = c.args in
    c.first_cover.result ≡ place_of (holder_at (lists a.m) a.leaves.now (stored w32 a.x) (stored w32 a.y) c.in-Some.at)
covered c =
    let a = c.args in
    c.first_cover.ensures
    ∙ ap₂ (λ x y. place_of (holder_at (lists a.m) a.leaves.now x y c.in-Some.at))
    (wide c.ranges.x c.from.ensures) (wide c.ranges.y c.from-in-Some.ensures)

pub returns-in-Some-first_cover : goal.returns-in-Some-first_cover
returns-in-Some-first_cover c =
    let a = c.args in
    let e = c.requires.3.within in
    let t = c.in-Some.ensures.0 in
    let r = reached (goal.at.returns-in-Some-first_cover c).In-Some in
    let h = place_some _ (sym c.in-Some-first_cover.is ∙ covered (goal.at.returns-in-Some-first_cover c).After-first_cover) in
    let f = found_on r c.in-Some-first_cover.cover (omega arith) h in
    subst (λ n. FirstHolder (lists a.m) a.leaves.now a.x a.y (c.in-Some.at / n) c.in-Some-first_cover.cover)
    (sym (record_length_is a.m)) (rw (to_z-of_z c.ranges.x, to_z-of_z c.ranges.y) at f)

pub loop-at-smaller : goal.loop-at-smaller
loop-at-smaller c =
    let t = c.in-Some.ensures.0 in
    let h = c.in-Some.ensures.1.after in
    omega arith

pub loop-at-preserved : goal.loop-at-preserved
loop-at-preserved c =
    let h = place_none _ (sym c.in_default-first_cover.is ∙ covered (goal.at.loop-at-preserved c).After-first_cover) in
    rw (record_length_is c.args.m) (searched_more (reached (goal.at.loop-at-preserved c).In-Some) h)

pub returns : goal.returns
returns c =
    let f = searched_rest c.loop-at.invariant c.in_default.ensures c.requires.3.whole in
    rw (to_z-of_z c.ranges.x, to_z-of_z c.ranges.y) at f

pub overflow_mul-record_length : goal.overflow_mul-record_length
overflow_mul-record_length c = let h = c.requires.0.most in search rules

pub overflow_add-record_length : goal.overflow_add-record_length
overflow_add-record_length c = let h = c.requires.0.most in search rules

pub overflow_add-first : goal.overflow_add-first
overflow_add-first c = let h = (here (goal.at.overflow_add-first c).In-Some).inside in search rules
