-- `text_numbers::number_reading::natural_at` meets its contract: the tests of the definition, at a value that stands for the digits'.
use Rattle.std.proofs.Common.{arith}
use Rattle.std.proofs.lemmas.Grind.{common_steps}
use Rattle.std.proofs.lemmas.Bool.Decides.{nat_tests}
use Rattle.text_numbers.specs.Numerals.{natural_at}
use Rattle.text_numbers.proofs.Runs.{stands_small, stands_large}
use Rattle.text_numbers.proofs.number_reading.natural_at.Goals as goal

pub returns-then-not-contains : goal.returns-then-not-contains
unfolding natural_at
returns-then-not-contains c = grind (arith, common_steps, nat_tests)

pub returns-then-value-le2147483648 : goal.returns-then-value-le2147483648
unfolding natural_at
returns-then-value-le2147483648 c = grind (arith, common_steps, nat_tests, stands_small)

pub returns-else-value-le2147483648 : goal.returns-else-value-le2147483648
unfolding natural_at
returns-else-value-le2147483648 c = grind (arith, common_steps, nat_tests, stands_large)
