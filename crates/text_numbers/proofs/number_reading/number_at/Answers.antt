-- `text_numbers::number_reading::number_at` meets its contract: the tests of the definition; a value read is one of 32 bits signed.
use Rattle.std.proofs.Common.{arith}
use Rattle.std.proofs.lemmas.Grind.{common_steps}
use Rattle.std.proofs.lemmas.Bool.Decides.{nat_tests}
use Rattle.integers.proofs.Ranges.{read_again}
use Rattle.text_numbers.specs.Numerals.{number_at}
use Rattle.text_numbers.proofs.Numbers.{natural_small}
use Rattle.text_numbers.proofs.number_reading.number_at.Goals as goal

pub returns-then-b-eq48 : goal.returns-then-b-eq48
unfolding number_at
returns-then-b-eq48 c = grind (arith, common_steps, nat_tests)

pub returns-in_err-value : goal.returns-in_err-value
unfolding number_at
returns-in_err-value c = grind (arith, common_steps, nat_tests)

pub negative-requires : goal.negative-requires
negative-requires c = grind (arith, natural_small)

pub returns-then-b-eq45 : goal.returns-then-b-eq45
unfolding number_at
returns-then-b-eq45 c = grind (arith, common_steps, nat_tests, read_again)

pub returns-in_err-value-2 : goal.returns-in_err-value-2
unfolding number_at
returns-in_err-value-2 c = grind (arith, common_steps, nat_tests)

pub returns-then-value-le2147483647 : goal.returns-then-value-le2147483647
unfolding number_at
returns-then-value-le2147483647 c = grind (arith, common_steps, nat_tests, read_again)

pub returns-else-value-le2147483647 : goal.returns-else-value-le2147483647
unfolding number_at
returns-else-value-le2147483647 c = grind (arith, common_steps, nat_tests)
