-- `text_forms::pairs::pair_at` meets its contract: the definition, test by test.
use Rattle.std.proofs.Common.{arith}
use Rattle.std.proofs.lemmas.Grind.{common_steps}
use Rattle.std.proofs.lemmas.Bool.Decides.{nat_tests}
use Rattle.integers.proofs.Ranges.{read_again}
use Rattle.text_forms.specs.Pairs.{pair_at}
use Rattle.text_forms.proofs.pairs.pair_at.Goals as goal

pub returns-then-byte_at-ne40 : goal.returns-then-byte_at-ne40
unfolding pair_at
returns-then-byte_at-ne40 c = grind (arith, common_steps, nat_tests)

pub returns-in_err-x : goal.returns-in_err-x
unfolding pair_at
returns-in_err-x c = grind (arith, common_steps, nat_tests)

pub returns-in_err-y : goal.returns-in_err-y
unfolding pair_at
returns-in_err-y c = grind (arith, common_steps, nat_tests)

pub returns : goal.returns
unfolding pair_at
returns c = grind (arith, common_steps, nat_tests, read_again)
