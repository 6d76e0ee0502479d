-- `binary64::thirty_second` meets its contract: the law of the quotient at 32 = 2 ^ 5. The code's 32.0 is `fin false 1 (pos 5)` once `of_bits` is unfolded.
use Rattle.std.proofs.Common.{refl, lit≤}
use lib.Ieee.{of_bits}
use Rattle.binary64.proofs.Quotient.{cast_quotient}
use Rattle.binary64.proofs.thirty_second.Goals as goal

pub returns : goal.returns
unfolding of_bits
returns c = let n = c.args.n in cast_quotient 5 (lit≤ tt) n n refl c.ranges.n
