-- `write_numbers::decimals::put_spaced` meets its contract.
use Rattle.write_numbers.proofs.Numbers.{spaced_number}
use Rattle.write_numbers.proofs.decimals.put_spaced.Goals as goal

pub returns : goal.returns
returns c = search spaced_number
