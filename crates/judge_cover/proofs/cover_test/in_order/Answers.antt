-- `judge_cover::cover_test::in_order` meets its contract: two products of small weights are compared.
use mathlib.Core.Path.{refl, sym}
use Rattle.integers.proofs.Machine.{fits!, flag! }
use Rattle.judge_cover.proofs.Sizes.{sizes}
use Rattle.judge_cover.proofs.cover_test.in_order.Goals as goal

pub returns : goal.returns
returns c = let p = c.requires in sym (flag! refl (search (sizes, p.0, p.1) depth 40) tt)

pub overflow_mul-result : goal.overflow_mul-result
overflow_mul-result c = let p = c.requires in fits! (search (sizes, p.0, p.1) depth 40) tt

pub overflow_mul-result-2 : goal.overflow_mul-result-2
overflow_mul-result-2 c = let p = c.requires in fits! (search (sizes, p.0, p.1) depth 40) tt
