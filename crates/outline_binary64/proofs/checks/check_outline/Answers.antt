-- `outline_binary64::checks::check_outline` meets its contract: the answer to the whole numbers read is that of the loop; a fault is named as it is returned.
use mathlib.Core.Path.{◌≡◌, refl, sym, ◌∙◌, ap}
use mathlib.Core.List.{List}
use mathlib.Core.Option.{Option, none, some}
use Prim.Native.Nat.{ℕ}
use native.Mathlib.Omega.{arith}
use lib.ListN.{length}
use lib.Ieee.{Float}
use Rattle.std.proofs.Common.{rules, Result, Ok, Err}
use Rattle.std.proofs.lemmas.Result.{err_from_is_err_and}
use Rattle.refusals.specs.declared.Refusal.{Refusal}
use Rattle.outline.specs.Checks.{Outlined, curves, faulty, outlined}
use Rattle.outline.specs.Faults.{fault_at}
use Rattle.outline.specs.Inside.{fault_of, checked_of}
use Rattle.outline.proofs.Faultless.{faultless}
use Rattle.integers.proofs.Clash.{clash}
use Rattle.outline_checks.proofs.Checking.{empty, begun, too_many, over, stopped, gone_on}
use Rattle.outline_binary64.specs.Lists.{wholes, named, with_named, outlined_binary64}
use Rattle.outline_binary64.specs.Inside.{fault_named}
use Rattle.outline_binary64.proofs.Numbers.{wholes_length}
use Rattle.outline_binary64.proofs.checks.check_outline.Goals as goal
use Rattle.outline_binary64.proofs.checks.check_outline.Goals.{In_ok-fault_at}

-- ---- an answer with its fault named
abbrev checked_named : List Float → Result ℕ Refusal → Result ℕ Refusal
checked_named xs (Ok n) = Ok n
checked_named xs (Err r) = Err (named xs r)

named_checked : (xs : List Float) (o : Outlined) → checked_named xs (checked_of o) ≡ checked_of (with_named xs o)
named_checked xs (curves cs) = refl
named_checked xs (faulty r) = refl

answered : (xs : List Float) (most m : ℕ) {a : Result ℕ Refusal} → a ≡ checked_of (outlined most m (wholes xs))
    → checked_named xs a ≡ checked_of (outlined_binary64 most m xs)
unfolding outlined_binary64
answered xs most m e = ap (checked_named xs) e ∙ named_checked xs (outlined most m (wholes xs))

-- ---- what the code learns of one curve
record Named (xs : List Float) (o : Option Refusal) (r : Refusal) : Type 0 where
  fault : Refusal
  is : o ≡ some fault
  name : r ≡ named xs fault

is_fault : (xs : List Float) (o : Option Refusal) (r : Refusal) → Err r ≡ fault_named xs (fault_of o) → Named xs o r
is_fault xs none r e = clash (cc)
is_fault xs (some q) r e = record { fault = q; is = refl; name = cc }

no_fault : (xs : List Float) (o : Option Refusal) → Ok tt ≡ fault_named xs (fault_of o) → o ≡ none
no_fault xs none e = refl
no_fault xs (some q) e = clash (cc)

pub returns-then-is_empty : goal.returns-then-is_empty
returns-then-is_empty c =
    let a = c.args in
    let e : length a.xs.now ≡ 0 = search rules in
    answered a.xs.now a.most a.m (empty (wholes a.xs.now) a.most a.m (wholes_length a.xs.now ∙ e))

pub loop-at-init : goal.loop-at-init
loop-at-init c =
    let a = c.args in
    let e : length a.xs.now ≡ 0 → ⊥ = search rules in
    begun (wholes a.xs.now) a.most a.m (λ f. e (sym (wholes_length a.xs.now) ∙ f))

pub returns-then-count-most : goal.returns-then-count-most
returns-then-count-most c =
    let a = c.args in
    answered a.xs.now a.most a.m (too_many c.loop-at.invariant c.if-count-most.true (omega (arith, c.loop-at-test.true, wholes_length a.xs.now)))

pub returns-in_err-fault_at : goal.returns-in_err-fault_at
returns-in_err-fault_at c =
    let a = c.args in
    let r = c.in_err-fault_at.field-0.0 in
    let f = is_fault a.xs.now (fault_at a.m (wholes a.xs.now) c.loop-at.at) r c.in_err-fault_at.ensures in
    let p = err_from_is_err_and c.from_residual.result c.from_residual.ensures.1 in
    rw (p.1, p.2)
    (ap Err f.name
    ∙ answered a.xs.now a.most a.m (stopped c.loop-at.invariant c.if-count-most.false f.fault
    (omega (arith, c.loop-at-test.true, wholes_length a.xs.now)) f.is))

-- where the curve has no fault
clear : (c : In_ok-fault_at) → let a = c.args in fault_at a.m (wholes a.xs.now) c.loop-at.at ≡ none
clear c = no_fault c.args.xs.now _ c.in_ok-fault_at.ensures

pub next_at-at-requires : goal.next_at-at-requires
next_at-at-requires c = (faultless _ _ _ (clear c)).degree

pub loop-at-preserved : goal.loop-at-preserved
loop-at-preserved c = rw c.next_at-at.ensures (gone_on c.loop-at.invariant c.if-count-most.false (clear (goal.at.loop-at-preserved c).In_ok-fault_at))

pub returns : goal.returns
returns c =
    let a = c.args in
    answered a.xs.now a.most a.m (over c.loop-at.invariant (omega (arith, c.loop-at-test.false, wholes_length a.xs.now)))
