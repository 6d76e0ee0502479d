-- `text_forms::form_reading::form_at` meets its contract: the definition, test by test.
use Rattle.std.proofs.Common.{arith}
use Rattle.std.proofs.lemmas.Grind.{common_steps}
use Rattle.std.proofs.lemmas.Bool.Decides.{nat_tests}
use Rattle.text_forms.specs.Forms.{form_at}
use Rattle.text_forms.proofs.FormWords.{tolerance_fits, curve_fits, point_fits}
use Rattle.text_forms.proofs.form_reading.form_at.Goals as goal

pub overflow_add-i : goal.overflow_add-i
overflow_add-i c = search tolerance_fits

pub returns-then-word_at : goal.returns-then-word_at
unfolding form_at
returns-then-word_at c = grind (arith, common_steps, nat_tests)

pub overflow_add-i-then-word_at-2 : goal.overflow_add-i-then-word_at-2
overflow_add-i-then-word_at-2 c = search curve_fits

pub returns-then-word_at-2 : goal.returns-then-word_at-2
unfolding form_at
returns-then-word_at-2 c = grind (arith, common_steps, nat_tests)

pub overflow_add-i-then-word_at-3 : goal.overflow_add-i-then-word_at-3
overflow_add-i-then-word_at-3 c = search point_fits

pub returns-then-word_at-3 : goal.returns-then-word_at-3
unfolding form_at
returns-then-word_at-3 c = grind (arith, common_steps, nat_tests)

pub returns : goal.returns
unfolding form_at
returns c = grind (arith, common_steps, nat_tests)
