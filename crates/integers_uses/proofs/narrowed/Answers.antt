-- `integers_uses::narrowed` meets its contract: a sum that is known to be small fits the narrower type.
use Rattle.integers.proofs.Size.{Size, size_of}
use Rattle.integers.proofs.Machine.{machine, fits!, is! }
use Rattle.integers_uses.proofs.narrowed.Reads as reads
use Rattle.integers_uses.proofs.narrowed.Lts as lts
use Rattle.integers_uses.proofs.narrowed.Goals as goal

module _ (c : lts.Start reads.Pre reads.Post) where
  abbrev size-a : Size c.args.a
  size-a = size_of c.args.a c.requires

ruleset known = (machine, size-a)

pub overflow_add-result : goal.overflow_add-result
overflow_add-result c = fits! (search known depth 40) tt

pub overflow_cast-result : goal.overflow_cast-result
overflow_cast-result c = fits! (search known depth 40) tt

pub returns : goal.returns
returns c = is! (search known depth 40) tt
