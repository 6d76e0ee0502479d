-- The sums of one coordinate, by the degree.
use mathlib.Core.Path.{◌≡◌}
use Prim.Native.Nat.{◌*◌, ◌^◌, ◌≤◌}
use native.Mathlib.Omega.{arith}
use Rattle.bound_tolerance.proofs.SpreadLaws.{size_is, line_sums, quadratic_sums, cubic_sums}
use Rattle.bound_tolerance.proofs.SpreadLaws.{single_is, near_is, far_is, single_under, near_under, far_under, product_under}
use Rattle.bound_tolerance.proofs.spread.sums.Goals as goal
use Rattle.bound_tolerance.proofs.spread.sums.Goals.{After-size-b}

pub overflow_mul-both : goal.overflow_mul-both
overflow_mul-both c = let p = c.requires in omega (arith, product_under (single_under p.0 p.1) c.size.ensures.1)

-- at degree 3, both gaps times both sizes
products : (c : After-size-b) →
    let p = c.args.pieces in
    let a = c.size-a.result in
    let b = c.size-b.result in
    (p.near * a ≤ 45000 * 2 ^ 46) × (p.far * b ≤ 45000 * 2 ^ 46) × (p.far * a ≤ 45000 * 2 ^ 46) × (p.near * b ≤ 45000 * 2 ^ 46)
products c =
    let p = c.requires in
    let near = near_under p.0 p.1 in
    let far = far_under p.0 p.1 in
    let a = c.size-a.ensures.1 in
    let b = c.size-b.ensures.1 in
    (product_under near a, product_under far b, product_under far a, product_under near b)

pub returns-in-1 : goal.returns-in-1
returns-in-1 c = line_sums c.args.pieces.sixths c.args.pieces.m c.args.c c.in-1.is

pub returns-in-2 : goal.returns-in-2
returns-in-2 c =
    quadratic_sums c.args.pieces.sixths c.args.pieces.m c.args.c c.in-2.is (single_is c.requires.0 c.requires.1)
    (size_is c.difference_at.ensures c.size.ensures.0)

pub returns-in_default : goal.returns-in_default
returns-in_default c =
    let a = c.args in
    let p = c.requires in
    let e : a.degree ≡ 3 = omega (arith, p.2.most, p.2.least) in
    cubic_sums a.pieces.sixths a.pieces.m a.c e (near_is p.0 p.1) (far_is p.0 p.1)
    (size_is c.difference_at-in_default.ensures c.size-a.ensures.0)
    (size_is c.difference_at-in_default-2.ensures c.size-b.ensures.0)

pub overflow_mul-result : goal.overflow_mul-result
overflow_mul-result c = omega (arith, products c)

pub overflow_mul-result-in_default : goal.overflow_mul-result-in_default
overflow_mul-result-in_default c = omega (arith, products c)

pub overflow_add-result : goal.overflow_add-result
overflow_add-result c = omega (arith, products c)

pub overflow_mul-result-in_default-2 : goal.overflow_mul-result-in_default-2
overflow_mul-result-in_default-2 c = omega (arith, products c)

pub overflow_mul-result-in_default-3 : goal.overflow_mul-result-in_default-3
overflow_mul-result-in_default-3 c = omega (arith, products c)

pub overflow_add-result-in_default : goal.overflow_add-result-in_default
overflow_add-result-in_default c = omega (arith, products c)
