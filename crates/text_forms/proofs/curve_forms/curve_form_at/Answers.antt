-- `text_forms::curve_forms::curve_form_at` meets its contract: the definition, test by test.
use Rattle.std.proofs.Common.{arith}
use Rattle.std.proofs.lemmas.Grind.{common_steps}
use Rattle.std.proofs.lemmas.Bool.Decides.{nat_tests}
use Rattle.integers.proofs.Ranges.{read_again}
use Rattle.text_forms.specs.Forms.{curve_form_at}
use Rattle.text_forms.proofs.curve_forms.curve_form_at.Goals as goal

pub returns-in_err-x0 : goal.returns-in_err-x0
unfolding curve_form_at
returns-in_err-x0 c = grind (arith, common_steps, nat_tests)

pub returns-in_err-x1 : goal.returns-in_err-x1
unfolding curve_form_at
returns-in_err-x1 c = grind (arith, common_steps, nat_tests)

pub returns : goal.returns
unfolding curve_form_at
returns c = grind (arith, common_steps, nat_tests, read_again)
