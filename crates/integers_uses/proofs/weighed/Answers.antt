-- `integers_uses::weighed` meets its contract: each step fits by the bounds of the four numbers.
use Rattle.integers.proofs.Size.{Size, size_of}
use Rattle.integers.proofs.Machine.{machine, fits!, is! }
use Rattle.integers_uses.proofs.weighed.Reads as reads
use Rattle.integers_uses.proofs.weighed.Lts as lts
use Rattle.integers_uses.proofs.weighed.Goals as goal

module _ (c : lts.Start reads.Pre reads.Post) where
  abbrev size-p : Size c.args.p
  size-p = size_of c.args.p c.requires.of_p

  abbrev size-r : Size c.args.r
  size-r = size_of c.args.r c.requires.of_r

  abbrev size-a : Size c.args.a
  size-a = size_of c.args.a c.requires.of_a

  abbrev size-b : Size c.args.b
  size-b = size_of c.args.b c.requires.of_b

ruleset known = (machine, size-p, size-r, size-a, size-b)

pub overflow_mul-result : goal.overflow_mul-result
overflow_mul-result c = fits! (search known depth 40) tt

pub overflow_mul-result-2 : goal.overflow_mul-result-2
overflow_mul-result-2 c = fits! (search known depth 40) tt

pub overflow_add-result : goal.overflow_add-result
overflow_add-result c = fits! (search known depth 40) tt

pub returns : goal.returns
returns c = is! (search known depth 40) tt
