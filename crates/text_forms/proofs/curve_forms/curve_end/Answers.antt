-- `text_forms::curve_forms::curve_end` meets its contract: the definition, test by test.
use Rattle.std.proofs.Common.{arith}
use Rattle.std.proofs.lemmas.Grind.{common_steps}
use Rattle.std.proofs.lemmas.Bool.Decides.{nat_tests}
use Rattle.text_forms.specs.Forms.{curve_end}
use Rattle.text_forms.proofs.FormWords.{closing_fits}
use Rattle.text_forms.proofs.curve_forms.curve_end.Goals as goal

pub overflow_add-result : goal.overflow_add-result
overflow_add-result c = search closing_fits

pub returns-then-word_at : goal.returns-then-word_at
unfolding curve_end
returns-then-word_at c = grind (arith, common_steps, nat_tests)

pub returns-else-word_at : goal.returns-else-word_at
unfolding curve_end
returns-else-word_at c = grind (arith, common_steps, nat_tests)
