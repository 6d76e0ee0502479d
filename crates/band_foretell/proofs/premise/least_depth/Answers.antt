-- The search from depth 0 on: `parts` is 4^j, and what is left to search has the least depth. At depth 8 all numbers are far below 2^62.
use mathlib.Core.Path.{◌≡◌, refl, sym, ◌∙◌, ap}
use mathlib.Core.Bool.{Bool, not}
use Prim.Native.Nat.{ℕ, ◌+◌, ◌*◌, ◌-◌, ◌≤◌, ◌^◌}
use native.Mathlib.Nat.{mul-le-mul, pow-le-pow_right, pow-suc}
use native.Mathlib.Numerals.{add-one}
use native.Mathlib.Omega.{arith}
use lib.Dec.{lit<}
use lib.IntN.{pos}
use Rattle.integers.proofs.First.{bad_here, bad_on, bad_ended}
use Rattle.band_foretell.specs.Inside.{doubled_fits, least_depth, depth_found}
use Rattle.band_foretell.proofs.premise.least_depth.Invariants.{missed}
use Rattle.band_foretell.proofs.premise.least_depth.Goals as goal
use Rattle.band_foretell.proofs.premise.least_depth.Goals.{In-loop-j, After-doubled_fits}

parts-under : {j : ℕ} → j ≤ 8 → 4 ^ j ≤ 4 ^ 8
parts-under = pow-le-pow_right {n = 4} (lit< tt)

-- the two numbers that are compared
module _ (c : In-loop-j) where
  parts-small : c.loop-j.parts ≤ 4 ^ 8
  parts-small = omega (arith, parts-under {j = c.loop-j.j} (omega arith))

  bend-small : c.args.gap * c.args.largest ≤ 7500 * 2 ^ 22
  bend-small = mul-le-mul c.requires.0 c.requires.1

  wide-small : 625 * c.args.t * c.loop-j.parts ≤ 625 * 2 ^ 20 * 4 ^ 8
  wide-small = let t : 625 * c.args.t ≤ 625 * 2 ^ 20 = omega arith in mul-le-mul t parts-small

-- what the comparison says of depth j
answered : (c : After-doubled_fits) {v : Bool} → c.doubled_fits.result ≡ v
    → missed c.args.gap c.args.largest c.args.t
    c.loop-j.j ≡ not v
answered c e =
    let l = c.loop-j in
    let a = c.args in
    ap not
    (ap (λ n. doubled_fits (pos (a.gap * a.largest + 1250 * n)) (pos (625 * a.t * n))) (sym l.invariant.0) ∙ sym c.doubled_fits.ensures ∙ e)

pub overflow_mul-bend : goal.overflow_mul-bend
overflow_mul-bend c = omega (arith, mul-le-mul c.requires.0 c.requires.1)

pub overflow_mul-wide : goal.overflow_mul-wide
overflow_mul-wide c = omega arith

pub loop-j-init : goal.loop-j-init
unfolding least_depth
loop-j-init c = let e : c.args.deepest + 1 - 0 ≡ c.args.deepest + 1 = omega arith in (refl, rw e refl)

pub overflow_mul-parts : goal.overflow_mul-parts
overflow_mul-parts c = omega (arith, parts-small (goal.at.overflow_mul-parts c).In-loop-j)

pub overflow_add-bend : goal.overflow_add-bend
overflow_add-bend c = omega (arith, parts-small (goal.at.overflow_add-bend c).In-loop-j, bend-small (goal.at.overflow_add-bend c).In-loop-j)

pub overflow_mul-wide-in-loop-j : goal.overflow_mul-wide-in-loop-j
overflow_mul-wide-in-loop-j c = omega (arith, wide-small (goal.at.overflow_mul-wide-in-loop-j c).In-loop-j)

pub doubled_fits-requires : goal.doubled_fits-requires
doubled_fits-requires c = (omega (arith, parts-small (goal.at.doubled_fits-requires c).In-loop-j, bend-small (goal.at.doubled_fits-requires c).In-loop-j), omega (arith, wide-small (goal.at.doubled_fits-requires c).In-loop-j))

pub returns-then-doubled_fits : goal.returns-then-doubled_fits
returns-then-doubled_fits c =
    let l = c.loop-j in
    let a = c.args in
    sym (ap depth_found
    (l.invariant.1 ∙ bad_here (missed a.gap a.largest a.t) (a.deepest + 1) l.j (omega arith) (answered (goal.at.returns-then-doubled_fits c).After-doubled_fits c.if-doubled_fits.true)))

pub overflow_mul-parts-in-loop-j : goal.overflow_mul-parts-in-loop-j
overflow_mul-parts-in-loop-j c = omega (arith, parts-small (goal.at.overflow_mul-parts-in-loop-j c).In-loop-j)

pub loop-j-preserved : goal.loop-j-preserved
loop-j-preserved c =
    let l = c.loop-j in
    let a = c.args in (
      rw (add-one, pow-suc) (ap (λ (n : ℕ). n * 4) l.invariant.0),
      l.invariant.1 ∙ bad_on (missed a.gap a.largest a.t) (a.deepest + 1) l.j (omega arith) (answered (goal.at.loop-j-preserved c).After-doubled_fits c.if-doubled_fits.false),
    )

pub returns : goal.returns
returns c =
    let l = c.loop-j in
    let a = c.args in
    sym (ap depth_found (l.invariant.1 ∙ bad_ended (missed a.gap a.largest a.t) (a.deepest + 1) l.j (omega arith)))

pub returns-else-doubled_fits : goal.returns-else-doubled_fits
returns-else-doubled_fits c =
    let l = c.loop-j in
    let a = c.args in
    sym (ap depth_found
    (l.invariant.1
    ∙ bad_on (missed a.gap a.largest a.t) (a.deepest + 1) l.j (omega arith) (answered (goal.at.returns-else-doubled_fits c).After-doubled_fits c.if-doubled_fits.false)
    ∙ bad_ended (missed a.gap a.largest a.t) (a.deepest + 1) (l.j + 1) (omega arith)))
