-- `outline_from` curve by curve: what one step gives, and what an accepted list says of its first curve and of the rest.
use mathlib.Core.Path.{◌≡◌, refl, ap, subst}
use mathlib.Core.Bool.{Bool, true, false}
use mathlib.Core.List.{List, [], ◌∷◌}
use mathlib.Core.Option.{Option, none, some}
use Prim.Native.Nat.{ℕ, zero, suc, ◌-◌, ◌≤◌, ◌<◌}
use native.Mathlib.Nat.{not-le_of_lt}
use native.Mathlib.Numerals.{sub-one}
use native.Mathlib.Omega.{arith}
use borrow.Author.Tests.{lt-ltb, le-ltb, ltb-false}
use lib.Dec.{ltb}
use lib.ListN.{length}
use lib.IntN.{ℤ}
use Rattle.refusals.specs.declared.Refusal.{Refusal}
use Rattle.refusals.specs.declared.Refusal.TheVariants.{TooManyCurves}
use Rattle.curve_nodes.specs.declared.Curve.{Curve}
use Rattle.outline.specs.Curves.{next_at, curve_at}
use Rattle.outline.specs.Faults.{fault_at}
use Rattle.outline.specs.Checks.{Outlined, curves, faulty, with_curve, outline_from}
use Rattle.integers.proofs.Clash.{clash}
use Rattle.outline.proofs.Degrees.{degree_inside}
use Rattle.outline.proofs.Faultless.{faultless}

-- ---- one step
module _ (m : ℕ) (ns : List ℤ) (at : ℕ) where
  pub outline_ended : (left : ℕ) → length ns ≤ at → outline_from left m ns at ≡ curves []
  unfolding outline_from
  outline_ended zero h = rw (outline_from, le-ltb at (length ns) h)
  outline_ended (suc left) h = rw (outline_from, le-ltb at (length ns) h)

  pub outline_full : at < length ns → outline_from 0 m ns at ≡ faulty (TooManyCurves at)
  unfolding outline_from
  outline_full h = rw (outline_from, lt-ltb at (length ns) h)

  pub outline_faulty : (left : ℕ) (r : Refusal) → at < length ns → fault_at m ns at ≡ some r → outline_from (suc left) m ns at ≡ faulty r
  unfolding outline_from
  outline_faulty left r h e = rw (outline_from, lt-ltb at (length ns) h, e)

  pub outline_step : (left : ℕ) → fault_at m ns at ≡ none → outline_from (suc left) m ns at ≡ with_curve (curve_at ns at) (outline_from left m ns (next_at ns at))
  unfolding outline_from
  outline_step left e = rw (outline_from, lt-ltb at (length ns) (degree_inside ns at (faultless m ns at e).degree), e)

-- ---- an accepted list: it begins with a curve, or ends
pub record Begins (left m : ℕ) (ns : List ℤ) (at : ℕ) (c : Curve) (cs : List Curve) : Type 0 where
  pub some : 0 < left
  pub inside : at < length ns
  pub no_fault : fault_at m ns at ≡ none
  pub is : c ≡ curve_at ns at
  pub ends : next_at ns at ≤ length ns
  pub rest : outline_from (left - 1) m ns (next_at ns at) ≡ curves cs

no_room : (b : Bool) (i : ℕ) (cs : List Curve) → ◌≡◌ {A = Outlined} (elim b [ true ↦ faulty (TooManyCurves i) | false ↦ curves [] ]) (curves cs)
    → (b ≡ false) × (cs ≡ [])
no_room true i cs e = clash (cc)
no_room false i cs e = (refl, cc)

first : (b : Bool) (o : Option Refusal) (found : Curve) (rest : Outlined) (c : Curve) (cs : List Curve)
    → ◌≡◌ {A = Outlined} (elim b [ false ↦ curves [] | true ↦ elim o [ some r ↦ faulty r | none ↦ with_curve found rest ] ]) (curves (c ∷ cs))
    → (o ≡ none) × (c ≡ found) × (rest ≡ curves cs)
first true none found (curves ds) c cs e = (refl, cc, cc)
first true none found (faulty r) c cs e = clash (cc)
first true (some r) found rest c cs e = clash (cc)
first false o found rest c cs e = clash (cc)

last : (b : Bool) (o : Option Refusal) (found : Curve) (rest : Outlined)
    → ◌≡◌ {A = Outlined} (elim b [ false ↦ curves [] | true ↦ elim o [ some r ↦ faulty r | none ↦ with_curve found rest ] ]) (curves []) → b ≡ false
last true none found (curves ds) e = clash (cc)
last true none found (faulty r) e = clash (cc)
last true (some r) found rest e = clash (cc)
last false o found rest e = refl

pub outline_begins : (left m : ℕ) (ns : List ℤ) (at : ℕ) (c : Curve) (cs : List Curve)
    → outline_from left m ns at ≡ curves (c ∷ cs) → Begins left m ns at c cs
unfolding outline_from
outline_begins zero m ns at c cs e = let n = (no_room (ltb at (length ns)) at (c ∷ cs) e).1 in clash (cc)
outline_begins (suc left) m ns at c cs e =
    let s = first (ltb at (length ns)) (fault_at m ns at) (curve_at ns at) (outline_from left m ns (next_at ns at)) c cs e in
    let f = faultless m ns at s.0 in
    record {
      some = omega arith;
      inside = degree_inside ns at f.degree;
      no_fault = s.0;
      is = s.1;
      ends = f.ends;
      rest = rw sub-one s.2;
    }

pub outline_ends : (left m : ℕ) (ns : List ℤ) (at : ℕ) → outline_from left m ns at ≡ curves [] → length ns ≤ at
unfolding outline_from
outline_ends zero m ns at e = ltb-false at (length ns) (no_room (ltb at (length ns)) at [] e).0
outline_ends (suc left) m ns at e =
    ltb-false at (length ns) (last (ltb at (length ns)) (fault_at m ns at) (curve_at ns at) (outline_from left m ns (next_at ns at)) e)

-- ---- steps where a loop has tested the index
pub record Continues (left m : ℕ) (ns : List ℤ) (at : ℕ) (cs : List Curve) : Type 0 where
  pub rest : List Curve
  pub is : cs ≡ curve_at ns at ∷ rest
  pub begins : Begins left m ns at (curve_at ns at) rest

module _ (left m : ℕ) (ns : List ℤ) (at : ℕ) where
  pub outline_continues : (cs : List Curve) → outline_from left m ns at ≡ curves cs → at < length ns → Continues left m ns at cs
  outline_continues [] e h = absurd (not-le_of_lt h (outline_ends left m ns at e))
  outline_continues (c ∷ cs) e h =
      let b = outline_begins left m ns at c cs e in
      record { rest = cs; is = ap (λ (d : Curve). d ∷ cs) b.is; begins = subst (λ d. Begins left m ns at d cs) b.is b }
