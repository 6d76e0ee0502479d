-- Banding, and then judging a point against the leaves that were written; before both, the range of the point.
use Rattle.std.proofs.Common.{◌≡◌, ℕ, ◌+◌, ◌*◌, ◌≤◌, length, true, sym, ◌∙◌, subst, arith}
use lib.Seq.{length-take-le}
use Rattle.std.proofs.lemmas.Result.{err_from_is_err_and}
use mir.Facts.{to_z-of_z}
use Rattle.boxes.specs.Ranges.{in_range}
use Rattle.setting.specs.Setting.{lists}
use Rattle.setting.proofs.Pieces.{record_length_is}
use Rattle.judge.proofs.Answers.{range_bad, range_fine}
use Rattle.engine.proofs.Outcomes.{done_room, x_refused, y_refused, not_banded, never_refused, banded_judged}
use Rattle.engine.proofs.band_and_judge.Goals as goal
use Rattle.engine.proofs.band_and_judge.Goals.{Else-not-in_range, Else-not-in_range-2, In_ok-banded}

pub returns-then-not-in_range : goal.returns-then-not-in_range
returns-then-not-in_range c =
    let a = c.args in
    let out = range_bad c.ranges.x c.in_range.ensures c.if-not-in_range.true-raw in
    let r = rw (to_z-of_z c.ranges.tolerance) at c.refusal_or.ensures in
    let both = x_refused (lists a.m) a.tolerance a.outline.now a.records.now a.x a.y out r.records_unchanged r.value in
    record { records_after = both.0; answered = both.1 }

-- past the test of x
x_fine : (c : Else-not-in_range) → in_range c.args.x ≡ true
x_fine c = range_fine c.ranges.x c.in_range.ensures c.if-not-in_range.false-raw

pub returns-then-not-in_range-2 : goal.returns-then-not-in_range-2
returns-then-not-in_range-2 c =
    let a = c.args in
    let out = range_bad c.ranges.y c.in_range-2.ensures c.if-not-in_range-2.true-raw in
    let r = rw (to_z-of_z c.ranges.tolerance) at c.refusal_or-then-not-in_range-2.ensures in
    let both = y_refused (lists a.m) a.tolerance a.outline.now a.records.now a.x a.y
    (x_fine (goal.at.returns-then-not-in_range-2 c).Else-not-in_range) out r.records_unchanged r.value in
    record { records_after = both.0; answered = both.1 }

-- past the test of y
y_fine : (c : Else-not-in_range-2) → in_range c.args.y ≡ true
y_fine c = range_fine c.ranges.y c.in_range-2.ensures c.if-not-in_range-2.false-raw

-- the leaves have room in the lent list
room : (c : In_ok-banded) → (6 + 4 * c.args.m) * c.in_ok-banded.banded.leaves ≤ length c.args.records.now
room c =
    let a = c.args in
    let r = rw (to_z-of_z c.ranges.tolerance) at c.band.ensures in
    subst (λ (n : ℕ). n * c.in_ok-banded.banded.leaves ≤ length a.records.now) (sym (record_length_is a.m))
    (done_room (lists a.m) a.tolerance a.outline.now (length a.records.now) (sym r.value ∙ c.in_ok-banded.was))

pub overflow_mul-record_length : goal.overflow_mul-record_length
overflow_mul-record_length c = omega (arith, c.ranges.m)

pub overflow_add-record_length : goal.overflow_add-record_length
overflow_add-record_length c = omega (arith, c.ranges.m)

pub overflow_mul-record_length-2 : goal.overflow_mul-record_length-2
overflow_mul-record_length-2 c = omega (arith, room (goal.at.overflow_mul-record_length-2 c).In_ok-banded, c.well_formed.1.1.1.0.0)

pub slice_bounds-judge-end : goal.slice_bounds-judge-end
slice_bounds-judge-end c = omega (arith, room (goal.at.slice_bounds-judge-end c).In_ok-banded, c.band.auto.records)

pub slice_bounds-judge-end-2 : goal.slice_bounds-judge-end-2
slice_bounds-judge-end-2 c =
    let r = room (goal.at.slice_bounds-judge-end-2 c).In_ok-banded in
    let h : (6 + 4 * c.args.m) * c.in_ok-banded.banded.leaves ≤ length c.band.new.records = omega (arith, r, c.band.auto.records) in
    sym (length-take-le _ _ h)

pub returns-in_err-banded : goal.returns-in_err-banded
returns-in_err-banded c =
    let g = goal.at.returns-in_err-banded c in
    let a = c.args in
    let r = rw (to_z-of_z c.ranges.tolerance) at c.band.ensures in
    let both = not_banded (lists a.m) a.tolerance a.outline.now a.records.now a.x a.y (x_fine g.Else-not-in_range)
    (y_fine g.Else-not-in_range-2) r.records_after (sym r.value ∙ c.in_err-banded.was) in
    let p = err_from_is_err_and c.from_residual.result c.from_residual.ensures.1 in
    rw (p.1, p.2) (record { records_after = both.0; answered = both.1 })

pub returns-in_err-holder : goal.returns-in_err-holder
returns-in_err-holder c =
    let g = goal.at.returns-in_err-holder c in
    let a = c.args in
    let r = rw (to_z-of_z c.ranges.tolerance) at c.band.ensures in
    let j = rw (to_z-of_z c.ranges.x, to_z-of_z c.ranges.y, c.in_err-holder.was) at c.judge.ensures in
    absurd (never_refused (lists a.m) a.tolerance a.outline.now a.records.now a.x a.y (x_fine g.Else-not-in_range)
    (y_fine g.Else-not-in_range-2) r.records_after (sym r.value ∙ c.in_ok-banded.was) _ (rw (record_length_is a.m) at j))

pub returns : goal.returns
returns c =
    let g = goal.at.returns c in
    let a = c.args in
    let r = rw (to_z-of_z c.ranges.tolerance) at c.band.ensures in
    let j = rw (to_z-of_z c.ranges.x, to_z-of_z c.ranges.y, c.in_ok-holder.was) at c.judge.ensures in
    let both = banded_judged (lists a.m) a.tolerance a.outline.now a.records.now a.x a.y (x_fine g.Else-not-in_range)
    (y_fine g.Else-not-in_range-2) r.records_after (sym r.value ∙ c.in_ok-banded.was) _ (rw (record_length_is a.m) at j) in
    record { records_after = both.0; answered = both.1 }
