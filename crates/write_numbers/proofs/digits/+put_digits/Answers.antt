-- `write_numbers::digits::put_digits` meets its contract: one law a return.
use Rattle.write_numbers.proofs.DigitsLaws.{digits_none, digits_one, digits_more}
use Rattle.write_numbers.proofs.digits.+put_digits.Goals as goal

pub returns-then-places-eq0 : goal.returns-then-places-eq0
returns-then-places-eq0 t c = search digits_none

pub returns-then-n-lt10 : goal.returns-then-n-lt10
returns-then-n-lt10 t c = search digits_one

pub returns : goal.returns
returns t c = search digits_more
