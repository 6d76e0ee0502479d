-- Neighbours of an accepted outline meet; and where an outline is refused with 17, the curve named does not meet the one before it.
use mathlib.Core.Path.{◌≡◌, refl, ◌∙◌, ap, subst}
use mathlib.Core.Bool.{Bool, true, false}
use mathlib.Core.List.{List, [], ◌∷◌, ◌++◌}
use mathlib.Core.Option.{Option, none, some}
use Prim.Native.Nat.{ℕ, zero, suc, ◌-◌}
use lib.Dec.{ltb}
use lib.ListN.{length}
use lib.IntN.{ℤ}
use Rattle.integers.proofs.Clash.{clash}
use Rattle.refusals.specs.declared.Refusal.{Refusal}
use Rattle.refusals.specs.declared.Refusal.TheVariants.{TooManyCurves, Gap}
use Rattle.curve_nodes.specs.declared.Curve.{Curve}
use Rattle.outline.specs.Curves.{next_at, curve_at}
use Rattle.outline.specs.Meeting.{CurvesMeet}
use Rattle.outline.specs.Faults.{meets_before, fault_at}
use Rattle.outline.proofs.Faultless.{faultless, gap_found}
use Rattle.outline.proofs.PointBefore.{first_meets, meets_exactly}
use Rattle.outline.specs.Checks.{Outlined, curves, faulty, with_curve, outline_from, outlined}
use Rattle.outline.proofs.Steps.{outline_begins}
use Rattle.outline.proofs.Accepted.{outlined_from}

-- ---- accepted: the end of each curve is the start of the next
meet_from : (left m : ℕ) (ns : List ℤ) (at : ℕ) (front : List Curve) (c d : Curve) (rest : List Curve)
    → outline_from left m ns at ≡ curves (front ++ c ∷ d ∷ rest) → CurvesMeet c d
meet_from left m ns at [] c d rest e =
    let b = outline_begins left m ns at c (d ∷ rest) e in
    let n = outline_begins (left - 1) m ns (next_at ns at) d rest b.rest in
    rw (b.is, n.is) ((meets_exactly ns at (faultless m ns at b.no_fault).degree).0 (faultless m ns (next_at ns at) n.no_fault).meets)
meet_from left m ns at (b ∷ front) c d rest e =
    meet_from (left - 1) m ns (next_at ns at) front c d rest (outline_begins left m ns at b (front ++ c ∷ d ∷ rest) e).rest

pub curves_meet : (most m : ℕ) (ns : List ℤ) (front : List Curve) (c d : Curve) (rest : List Curve)
    → outlined most m ns ≡ curves (front ++ c ∷ d ∷ rest) → CurvesMeet c d
curves_meet most m ns front c d rest e = meet_from most m ns 0 front c d rest (outlined_from most m ns (front ++ c ∷ d ∷ rest) e)

faulty_is : {q r : Refusal} → faulty q ≡ faulty r → q ≡ r
faulty_is e = cc

-- ---- refused with 17: the curve named does not begin where the curve before it ends
pub record Apart (m : ℕ) (ns : List ℤ) (i : ℕ) : Type 0 where
  pub before : ℕ
  pub no_fault : fault_at m ns before ≡ none
  pub next : next_at ns before ≡ i
  pub apart : CurvesMeet (curve_at ns before) (curve_at ns i) → ⊥

-- a curve without a fault stands before index `at`, or none does
data Preceded (m : ℕ) (ns : List ℤ) : ℕ → Type 0 where
  first : Preceded m ns 0
  after : (before : ℕ) → fault_at m ns before ≡ none → Preceded m ns (next_at ns before)

found_apart : (m : ℕ) (ns : List ℤ) (at : ℕ) → Preceded m ns at → meets_before ns at ≡ false → Apart m ns at
found_apart m ns _ first e = let z = first_meets ns in clash (cc)
found_apart m ns _ (after before f) e = record {
  before = before;
  no_fault = f;
  next = refl;
  apart = λ d. let z = (meets_exactly ns before (faultless m ns before f).degree).1 d in clash (cc);
}

gap_from : (left m : ℕ) (ns : List ℤ) (at : ℕ) → Preceded m ns at → (i : ℕ) → outline_from left m ns at ≡ faulty (Gap i) → Apart m ns i
unfolding outline_from
gap_from zero m ns at p i e = go (ltb at (length ns)) e
  where
    go : (b : Bool) → ◌≡◌ {A = Outlined} (elim b [ true ↦ faulty (TooManyCurves at) | false ↦ curves [] ]) (faulty (Gap i)) → Apart m ns i
    go true e = clash (cc)
    go false e = clash (cc)
gap_from (suc left) m ns at p i e =
    go (ltb at (length ns)) (fault_at m ns at) refl (outline_from left m ns (next_at ns at)) (λ f. gap_from left m ns (next_at ns at) (after at f) i) e
  where
    go : (b : Bool) (o : Option Refusal) → fault_at m ns at ≡ o → (rest : Outlined) → (fault_at m ns at ≡ none → rest ≡ faulty (Gap i) → Apart m ns i)
        → ◌≡◌ {A = Outlined} (elim b [ false ↦ curves [] | true ↦ elim o [ some r ↦ faulty r | none ↦ with_curve (curve_at ns at) rest ] ])
        (faulty (Gap i))
        → Apart m ns i
    go true none f (curves cs) again e = clash (cc)
    go true none f (faulty r) again e = again f e
    go true (some r) f rest again e =
        let g = gap_found m ns at i (f ∙ ap some (faulty_is e)) in
        subst (Apart m ns) g.0 (found_apart m ns at p g.1)
    go false o f rest again e = clash (cc)

pub gap_said : (most m : ℕ) (ns : List ℤ) (i : ℕ) → outlined most m ns ≡ faulty (Gap i) → Apart m ns i
unfolding outlined
gap_said most m [] i e = clash (cc)
gap_said most m (z ∷ ns) i e = gap_from most m (z ∷ ns) 0 first i e
