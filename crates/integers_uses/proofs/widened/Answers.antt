-- `integers_uses::widened` meets its contract: unsigned numbers that are cast have the bound of their type, or a given one.
use Prim.Native.Nat.{◌^◌}
use Rattle.integers.proofs.Machine.{Count, machine, count_of, fits!, is! }
use Rattle.integers_uses.proofs.widened.Reads as reads
use Rattle.integers_uses.proofs.widened.Lts as lts
use Rattle.integers_uses.proofs.widened.Goals as goal

module _ (c : lts.Start reads.Pre reads.Post) where
  abbrev count-n : Count c.args.n
  count-n = count_of c.ranges.n

  abbrev count-k : Count c.args.k
  count-k = record { bound = 2 ^ 20; under = c.requires }

ruleset known = (machine, count-n, count-k)

pub overflow_cast-result : goal.overflow_cast-result
overflow_cast-result c = fits! (search (known, c.ranges.a) depth 40) tt

pub overflow_mul-result : goal.overflow_mul-result
overflow_mul-result c = fits! (search known depth 40) tt

pub overflow_add-result : goal.overflow_add-result
overflow_add-result c = fits! (search (known, c.ranges.a) depth 40) tt

pub returns : goal.returns
returns c = is! (search (known, c.ranges.a) depth 40) tt
