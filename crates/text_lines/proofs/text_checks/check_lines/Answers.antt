-- `text_lines::text_checks::check_lines` meets its contract: one law a return.
use Rattle.std.proofs.Common.{arith}
use Rattle.std.proofs.lemmas.Bool.Decides.{nat_tests}
use Rattle.std.proofs.lemmas.Result.{err_from_is_err_and}
use Rattle.text_lines.proofs.Faults.{lines_none, first_no_form, rest_refused, rest_fine, first_curve, first_point}
use Rattle.text_lines.proofs.text_checks.check_lines.Goals as goal

pub returns-then-is_empty : goal.returns-then-is_empty
returns-then-is_empty c = grind (arith, nat_tests, lines_none)

pub returns-in_err-check_rest-in-Some-Tolerance : goal.returns-in_err-check_rest-in-Some-Tolerance
returns-in_err-check_rest-in-Some-Tolerance c =
    let p = err_from_is_err_and c.from_residual.result c.from_residual.ensures.1 in
    rw (p.1, p.2) (grind (arith, nat_tests, rest_refused))

pub returns-in_ok-check_rest-in-Some-Tolerance : goal.returns-in_ok-check_rest-in-Some-Tolerance
returns-in_ok-check_rest-in-Some-Tolerance c = grind (arith, nat_tests, rest_fine)

pub returns-in-Some-Curve : goal.returns-in-Some-Curve
returns-in-Some-Curve c = grind (arith, nat_tests, first_curve, first_point)

pub returns-in-None : goal.returns-in-None
returns-in-None c = grind (arith, nat_tests, first_no_form)
