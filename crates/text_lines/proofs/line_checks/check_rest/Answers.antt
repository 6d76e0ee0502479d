-- `text_lines::line_checks::check_rest` meets its contract: the reader is held in a local from line to line, and each line is one law of `Checking`.
use Rattle.std.proofs.Common.{◌≡◌, List, ℕ, ap, ◌∙◌}
use Rattle.std.proofs.lemmas.Result.{err_from_is_err_and}
use Rattle.text_forms.specs.Forms.{form_at}
use Rattle.text_lines.specs.Lines.{Line}
use Rattle.text_lines.proofs.Faults.{rest_over}
use Rattle.text_lines.proofs.Checking.{Passed, line_passed, line_refused}
use Rattle.text_lines.proofs.line_checks.check_rest.Goals as goal
use Rattle.text_lines.proofs.line_checks.check_rest.Goals.{In_ok-late}

-- the form that was read, at the reader's place in the text
read : (t s : List ℕ) (i : ℕ) (f : Line) → f ≡ form_at t i → t ≡ s → f ≡ form_at s i
read t s i f e q = e ∙ ap (λ (x : List ℕ). form_at x i) q

-- what holds after a line that is in order
passed : (c : In_ok-late) → let now = c.loop-reader in
    Passed c.args.text.now c.args.at now.late now.reader.read now.line now.invariant.checking c.loop-reader-test.true c.in_ok-late.late
    c.after-reader.result.read
passed c =
    let now = c.loop-reader.invariant in
    let form = read _ _ _ _ c.next-form.ensures now.of_text in
    rw c.after-reader.ensures.1
    (line_passed _ _ _ _ _ now.checking c.loop-reader-test.true c.next-form.result form c.in_ok-late.late c.in_ok-late.ensures)

pub loop-reader-preserved : goal.loop-reader-preserved
loop-reader-preserved c =
    record { checking = (passed c).checking; of_text = ap (λ t. t.now) c.after-reader.ensures.0 ∙ c.loop-reader.invariant.of_text }

pub loop-reader-smaller : goal.loop-reader-smaller
loop-reader-smaller c = (passed c).less

pub returns-in_err-late : goal.returns-in_err-late
returns-in_err-late c =
    let now = c.loop-reader.invariant in
    let form = read _ _ _ _ c.next-form.ensures now.of_text in
    let p = err_from_is_err_and c.from_residual.result c.from_residual.ensures.1 in
    rw (p.1, p.2) (line_refused _ _ _ _ _ now.checking c.loop-reader-test.true c.next-form.result form _ c.in_err-late.ensures)

pub returns : goal.returns
returns c = rest_over _ _ _ _ _ c.loop-reader.invariant.checking c.loop-reader-test.false
