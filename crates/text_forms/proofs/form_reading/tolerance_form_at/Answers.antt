-- `text_forms::form_reading::tolerance_form_at` meets its contract: the definition, test by test.
use Rattle.std.proofs.Common.{arith}
use Rattle.std.proofs.lemmas.Grind.{common_steps}
use Rattle.std.proofs.lemmas.Bool.Decides.{nat_tests}
use Rattle.integers.proofs.Ranges.{read_again}
use Rattle.text_forms.specs.Forms.{tolerance_form_at}
use Rattle.text_forms.proofs.FormWords.{closing_fits}
use Rattle.text_forms.proofs.form_reading.tolerance_form_at.Goals as goal

pub returns-in_err-tolerance : goal.returns-in_err-tolerance
unfolding tolerance_form_at
returns-in_err-tolerance c = grind (arith, common_steps, nat_tests)

pub overflow_add-result : goal.overflow_add-result
overflow_add-result c = search closing_fits

pub returns-then-word_at : goal.returns-then-word_at
unfolding tolerance_form_at
returns-then-word_at c = grind (arith, common_steps, nat_tests, read_again)

pub returns-else-word_at : goal.returns-else-word_at
unfolding tolerance_form_at
returns-else-word_at c = grind (arith, common_steps, nat_tests)
