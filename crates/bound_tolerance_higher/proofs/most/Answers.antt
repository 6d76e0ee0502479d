-- The most that lows and highs of a coordinate can be apart.
use mathlib.Core.Path.{◌∙◌, ap₂}
use Prim.Native.Nat.{◌+◌, ◌*◌, ◌-◌, ◌^◌, ◌≤◌}
use native.Mathlib.Omega.{arith}
use Rattle.bound_tolerance_higher.specs.Spreads.{most_of}
use Rattle.bound_tolerance.proofs.SpreadLaws.{product_under}
use Rattle.bound_tolerance_higher.proofs.most.Goals as goal
use Rattle.bound_tolerance_higher.proofs.most.Goals.{After-max-inner, After-saturating_sub-beyond}

-- none is larger than the sizes are
inner-under : (c : After-max-inner) → c.max-inner.result ≤ 2 ^ 46
inner-under c = let s = c.requires.1 in omega (arith, c.max-inner.ensures, s.under 1, s.under 2)

beyond-under : (c : After-saturating_sub-beyond) → c.saturating_sub-beyond.result ≤ 2 ^ 46
beyond-under c = let s = c.requires.1 in
    omega (arith, c.saturating_sub-beyond.ensures, c.max-outer.ensures, s.under 0, s.under 3)

pub returns : goal.returns
unfolding most_of
returns c =
    let g = c.args.gaps in
    λ k. g.whole * c.max-inner.ensures k + g.outer * (c.saturating_sub-beyond.ensures ∙ ap₂ ◌-◌ c.max-outer.ensures c.max-inner.ensures) k

pub overflow_mul-result : goal.overflow_mul-result
overflow_mul-result c = omega (arith, product_under c.requires.0.whole (inner-under (goal.at.overflow_mul-result c).After-max-inner))

pub overflow_mul-result-2 : goal.overflow_mul-result-2
overflow_mul-result-2 c = omega (arith, product_under c.requires.0.outer (beyond-under (goal.at.overflow_mul-result-2 c).After-saturating_sub-beyond))

pub overflow_add-result : goal.overflow_add-result
overflow_add-result c = let p = c.requires.0 in
    omega (arith, product_under p.whole (inner-under (goal.at.overflow_add-result c).After-max-inner), product_under p.outer (beyond-under (goal.at.overflow_add-result c).After-saturating_sub-beyond))
