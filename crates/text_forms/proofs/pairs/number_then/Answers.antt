-- `text_forms::pairs::number_then` meets its contract: the definition, test by test.
use Rattle.std.proofs.Common.{arith}
use Rattle.std.proofs.lemmas.Grind.{common_steps}
use Rattle.std.proofs.lemmas.Bool.Decides.{nat_tests}
use Rattle.integers.proofs.Ranges.{read_again}
use Rattle.text_forms.specs.Pairs.{number_then}
use Rattle.text_forms.proofs.pairs.number_then.Goals as goal

pub returns-in_err-value : goal.returns-in_err-value
unfolding number_then
returns-in_err-value c = grind (arith, common_steps, nat_tests)

pub returns-then-byte_at-b : goal.returns-then-byte_at-b
unfolding number_then
returns-then-byte_at-b c = grind (arith, common_steps, nat_tests)

pub returns : goal.returns
unfolding number_then
returns c = grind (arith, common_steps, nat_tests, read_again)
