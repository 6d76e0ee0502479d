-- Check 5 falls exactly where a curve too many begins, and on its degree.
use mathlib.Core.Path.{◌≡◌, refl, sym, ◌∙◌, ap, subst}
use mathlib.Core.Bool.{Bool, true, false}
use mathlib.Core.Logic.{◌↔◌}
use mathlib.Core.List.{List, [], ◌∷◌}
use mathlib.Core.Option.{Option, none, some}
use Prim.Native.Nat.{ℕ, zero, suc, ◌<◌}
use native.Mathlib.Nat.{not-suc-le-zero, le_of_suc-le-suc}
use native.Mathlib.Omega.{arith}
use borrow.Author.Tests.{ltb-true}
use lib.Dec.{ltb}
use lib.ListN.{length}
use lib.IntN.{ℤ}
use Rattle.integers.proofs.Clash.{clash}
use Rattle.refusals.specs.declared.Refusal.{Refusal}
use Rattle.refusals.specs.declared.Refusal.TheVariants.{TooManyCurves}
use Rattle.outline.specs.Curves.{next_at, curve_at}
use Rattle.outline.specs.Faults.{fault_at}
use Rattle.outline.specs.Checks.{Outlined, curves, faulty, with_curve, outline_from, outlined}
use Rattle.outline.specs.Places.{place_of, OneTooMany}
use Rattle.outline.proofs.Faultless.{Finding, no_degree, few_pieces, cut_short, beyond, gap, finding}
use Rattle.outline.proofs.Steps.{outline_full, outline_step}

-- it is no fault of one curve
not_of_a_curve : (m : ℕ) (ns : List ℤ) (at i : ℕ) → fault_at m ns at ≡ some (TooManyCurves i) → ⊥
not_of_a_curve m ns at i e = go (TooManyCurves i) refl (rw e at (finding m ns at))
  where
    go : (r : Refusal) → r ≡ TooManyCurves i → Finding m ns at (some r) → ⊥
    go _ f no_degree = clash (cc)
    go _ f few_pieces = clash (cc)
    go _ f cut_short = clash (cc)
    go _ f (beyond k l) = clash (cc)
    go _ f (gap h) = clash (cc)

-- ---- where it is due
due : (left m : ℕ) (ns : List ℤ) (at i : ℕ) → OneTooMany left m ns at i → outline_from left m ns at ≡ faulty (TooManyCurves i)
due zero m ns at i t = subst (λ j. outline_from 0 m ns at ≡ faulty (TooManyCurves j)) t.is (outline_full m ns at (rw t.is t.begins))
due (suc left) m ns at i t =
    outline_step m ns at left (t.no_fault 0 (omega arith))
    ∙ ap (with_curve (curve_at ns at)) (due left m ns (next_at ns at) i
    (record { no_fault = λ k h. t.no_fault (suc k) (omega (arith, h)); is = t.is; begins = t.begins }))

-- ---- and only there
said : (left m : ℕ) (ns : List ℤ) (at i : ℕ) → outline_from left m ns at ≡ faulty (TooManyCurves i) → OneTooMany left m ns at i
unfolding outline_from
said zero m ns at i = go (ltb at (length ns)) refl
  where
    go : (b : Bool) → ltb at (length ns) ≡ b
        → ◌≡◌ {A = Outlined} (elim b [ true ↦ faulty (TooManyCurves at) | false ↦ curves [] ]) (faulty (TooManyCurves i)) → OneTooMany 0 m ns at i
    go true f e =
        let is : at ≡ i = cc in
        record { no_fault = λ k h. absurd (not-suc-le-zero h); is = is; begins = rw (sym is) (ltb-true at (length ns) f) }
    go false f e = clash (cc)
said (suc left) m ns at i = go (ltb at (length ns)) (fault_at m ns at) refl (outline_from left m ns (next_at ns at)) (said left m ns (next_at ns at) i)
  where
    go : (b : Bool) (o : Option Refusal) → fault_at m ns at ≡ o → (rest : Outlined)
        → (rest ≡ faulty (TooManyCurves i) → OneTooMany left m ns (next_at ns at) i)
        → ◌≡◌ {A = Outlined} (elim b [ false ↦ curves [] | true ↦ elim o [ some r ↦ faulty r | none ↦ with_curve (curve_at ns at) rest ] ])
        (faulty (TooManyCurves i))
        → OneTooMany (suc left) m ns at i
    go false o f rest again e = clash (cc)
    go true (some r) f rest again e = absurd (not_of_a_curve m ns at i (f ∙ cc))
    go true none f (curves cs) again e = clash (cc)
    go true none f (faulty r) again e =
        let t = again e in
        record { no_fault = each t; is = t.is; begins = t.begins }
      where
        each : OneTooMany left m ns (next_at ns at) i → (k : ℕ) → k < suc left → fault_at m ns (place_of ns at k) ≡ none
        each t zero h = f
        each t (suc k) h = t.no_fault k (le_of_suc-le-suc h)

pub count_exactly : (most m : ℕ) (ns : List ℤ) (i : ℕ) → (outlined most m ns ≡ faulty (TooManyCurves i)) ↔ OneTooMany most m ns 0 i
unfolding outlined
count_exactly most m [] i = (λ e. clash (cc), λ t. absurd (not-suc-le-zero t.begins))
count_exactly most m (z ∷ ns) i = (said most m (z ∷ ns) 0 i, due most m (z ∷ ns) 0 i)
