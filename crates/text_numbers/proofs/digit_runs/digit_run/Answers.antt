-- `text_numbers::digit_runs::digit_run` meets its contract. The loop's invariant is `Reading`, and that no place is passed by.
use mathlib.Core.Path.{◌≡◌}
use mathlib.Core.Bool.{true, false}
use native.Mathlib.Omega.{arith}
use Rattle.text_numbers.specs.Numerals.{byte, is_digit}
use Rattle.text_numbers.proofs.Runs.{reading_start, reading_over, reading_stopped, reading_more, reading_above}
use Rattle.text_numbers.proofs.digit_runs.digit_run.Goals as goal
use Rattle.text_numbers.proofs.digit_runs.digit_run.Goals.{then-value-lt4294967296, else-value-lt4294967296}

pub loop-i-init : goal.loop-i-init
loop-i-init c = (reading_start _ _, omega arith)

pub loop-i-preserved : goal.loop-i-preserved
loop-i-preserved c =
    let r = c.loop-i.invariant.0 in
    let h = c.loop-i-test.true in
    let e : is_digit (byte c.args.text.now c.loop-i.i) ≡ true = cc in
    let now = c.if-value-lt4294967296 in
    elim now.branch [
      | then-value-lt4294967296 w ↦ (reading_more r h e now.value (cc), omega arith)
      | else-value-lt4294967296 w ↦ (reading_above r h e now.value w.value-is w.if-value-lt4294967296.false, omega arith)
    ]

pub returns : goal.returns
returns c =
    let e : c.loop-i.i ≡ c.max.result = omega arith in
    rw (← e) (reading_over c.loop-i.invariant.0 c.loop-i-test.false)

pub returns-then-not-is_ascii_digit : goal.returns-then-not-is_ascii_digit
returns-then-not-is_ascii_digit c =
    let e : is_digit (byte c.args.text.now c.loop-i.i) ≡ false = cc in
    reading_stopped c.loop-i.invariant.0 c.loop-i-test.true e

-- (a wrong bound of the exact values is refused here)
pub overflow_mul-value : goal.overflow_mul-value
overflow_mul-value c = omega arith
