-- `write_numbers::decimals::put_number` meets its contract: one law a return.
use Rattle.write_numbers.proofs.Numbers.{number_plus, number_minus}
use Rattle.write_numbers.proofs.decimals.put_number.Goals as goal

pub returns-then-value-lt0 : goal.returns-then-value-lt0
returns-then-value-lt0 c = search number_minus

pub returns-else-value-lt0 : goal.returns-else-value-lt0
returns-else-value-lt0 c = search number_plus
