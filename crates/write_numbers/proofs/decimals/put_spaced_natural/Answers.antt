-- `write_numbers::decimals::put_spaced_natural` meets its contract.
use Rattle.write_numbers.proofs.Numbers.{spaced_natural_law}
use Rattle.write_numbers.proofs.decimals.put_spaced_natural.Goals as goal

pub returns : goal.returns
returns c = search spaced_natural_law
