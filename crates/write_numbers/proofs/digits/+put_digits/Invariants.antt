-- The measure of `write_numbers::digits::put_digits` is `places`.
use Rattle.write_numbers.proofs.digits.+put_digits.Given as goal

abbrev pub decreases-put_digits : goal.decreases-put_digits
decreases-put_digits l = l.places
