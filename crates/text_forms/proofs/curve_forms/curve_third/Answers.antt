-- `text_forms::curve_forms::curve_third` meets its contract: the definition, test by test.
use Rattle.std.proofs.Common.{arith}
use Rattle.std.proofs.lemmas.Grind.{common_steps}
use Rattle.std.proofs.lemmas.Bool.Decides.{nat_tests}
use Rattle.integers.proofs.Ranges.{read_again}
use Rattle.text_forms.specs.Forms.{curve_third, curve_fourth}
use Rattle.text_forms.proofs.curve_forms.curve_third.Goals as goal

pub returns-in_default : goal.returns-in_default
unfolding curve_third curve_fourth
returns-in_default c = grind (arith, common_steps, nat_tests)

pub returns-in_default-spaced_pair_at : goal.returns-in_default-spaced_pair_at
unfolding curve_third curve_fourth
returns-in_default-spaced_pair_at c = grind (arith, common_steps, nat_tests, read_again)

pub returns : goal.returns
unfolding curve_third curve_fourth
returns c = grind (arith, common_steps, nat_tests, read_again)
