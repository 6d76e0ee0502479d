-- `binary64::sixteenth` meets its contract: the law of the quotient at 16 = 2 ^ 4. The code's 16.0 is `fin false 1 (pos 4)` once `of_bits` is unfolded.
use Rattle.std.proofs.Common.{refl, lit≤}
use lib.Ieee.{of_bits}
use Rattle.binary64.proofs.Quotient.{cast_quotient}
use Rattle.binary64.proofs.sixteenth.Goals as goal

pub returns : goal.returns
unfolding of_bits
returns c = let n = c.args.n in cast_quotient 4 (lit≤ tt) n n refl c.ranges.n
