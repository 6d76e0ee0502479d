-- `integers_uses::folded` meets its contract: a parameter has the bound of its width, and each operation has a rule.
use mathlib.Core.Path.{◌∙◌}
use mathlib.Core.List.{[], ◌∷◌}
use mathlib.Core.Path.{refl}
use lib.Dec.{lit<}
use lib.IntN.{pos}
use lib.Signed.{quot_z, rem_z, shr_z}
use Rattle.integers.proofs.Ring.{ring, sides}
use Rattle.integers.proofs.Machine.{machine, fits!, is! }
use Rattle.integers_uses.proofs.folded.Goals as goal

pub overflow_cast-w : goal.overflow_cast-w
overflow_cast-w c = fits! (search (machine, c.ranges.a) depth 40) tt

pub overflow_sub-result : goal.overflow_sub-result
overflow_sub-result c = fits! (search (machine, c.ranges.a) depth 40) tt

pub nonzero_div-result : goal.nonzero_div-result
nonzero_div-result c = (lit< tt, fits! (search (machine, c.ranges.a) depth 40) tt)

pub nonzero_rem-result : goal.nonzero_rem-result
nonzero_rem-result c = (lit< tt, fits! (search (machine, c.ranges.a) depth 40) tt)

pub overflow_mul-result : goal.overflow_mul-result
overflow_mul-result c = fits! (search (machine, c.ranges.a) depth 40) tt

pub overflow_add-result : goal.overflow_add-result
overflow_add-result c = fits! (search (machine, c.ranges.a) depth 40) tt

pub overflow_sub-result-2 : goal.overflow_sub-result-2
overflow_sub-result-2 c = fits! (search (machine, c.ranges.a) depth 40) tt

pub returns : goal.returns
returns c =
    let a = c.args.a in
    is! (search (machine, c.ranges.a) depth 40) tt
    ∙ ring (a ∷ quot_z a (pos 7) ∷ rem_z a (pos 5) ∷ shr_z a 8 ∷ []) (search sides depth 40) refl
