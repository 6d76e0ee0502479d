-- `text_forms::pairs::spaced_pair_at` meets its contract: the definition, test by test.
use Rattle.std.proofs.Common.{arith}
use Rattle.std.proofs.lemmas.Grind.{common_steps}
use Rattle.std.proofs.lemmas.Bool.Decides.{nat_tests}
use Rattle.text_forms.specs.Pairs.{spaced_pair_at}
use Rattle.text_forms.proofs.pairs.spaced_pair_at.Goals as goal

pub returns-then-byte_at-ne32 : goal.returns-then-byte_at-ne32
unfolding spaced_pair_at
returns-then-byte_at-ne32 c = grind (arith, common_steps, nat_tests)

pub returns : goal.returns
unfolding spaced_pair_at
returns c = grind (arith, common_steps, nat_tests)
