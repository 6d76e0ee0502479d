-- An outline in which one curve gives way to another: its curves before and after are read as they were, and its first fault is that of the
-- new curve, or 17 of the curve after it.
use mathlib.Core.Path.{◌≡◌, refl, sym, ◌∙◌, ap, ap₂}
use mathlib.Core.Bool.{Bool, true, false, ◌||◌, ◌&&◌}
use mathlib.Core.List.{List, [], ◌∷◌, ◌++◌}
use mathlib.Core.Option.{Option, none, some}
use Prim.Native.Nat.{ℕ, zero, suc, ◌+◌, ◌-◌, ◌≤◌, ◌<◌}
use native.Mathlib.Nat.{not-suc-le-zero, le_of_suc-le-suc}
use native.Mathlib.Omega.{arith}
use lib.Dec.{ltb}
use lib.ListN.{length, take, drop}
use lib.IntN.{ℤ}
use Rattle.integers.specs.Entry.{entry}
use Rattle.integers.specs.Equal.{equal}
use Rattle.refusals.specs.declared.Refusal.{Refusal}
use Rattle.refusals.specs.declared.Refusal.TheVariants.{Gap}
use Rattle.curve_nodes.specs.declared.Curve.{Curve}
use Rattle.outline.specs.Curves.{degree_fine, coordinates, degree_at, next_at, curve_at}
use Rattle.outline.specs.Faults.{meets_before, fault_at}
use Rattle.outline.specs.Checks.{Outlined, curves, faulty, with_curve, outline_from}
use Rattle.outline.specs.Places.{place_of}
use Rattle.outline.proofs.Faultless.{faultless}
use Rattle.outline.proofs.Steps.{Begins, outline_begins, outline_step, outline_faulty}
use Rattle.outline_changed.specs.Changed.{changed}
use Rattle.outline_changed.specs.Inside.{own_fault, meets_old, meets_next, changed_fault}
use Rattle.outline_changed.proofs.OwnFaults.{own_fine}
use Rattle.outline_changed.proofs.Transfer.{Sound, sound, sound_none, sound_gap, same_next, same_curve, same_sound}
use Rattle.outline_changed.proofs.NewCurve.{put, put_before, begun, meets_there, own_there, own_sound, new_curve, new_next, after_new}

-- ---- the curves before it
abbrev pub with_all : List Curve → Outlined → Outlined
with_all [] o = o
with_all (c ∷ cs) o = with_curve c (with_all cs o)

pub all_curves : (cs ds : List Curve) → with_all cs (curves ds) ≡ curves (cs ++ ds)
all_curves [] ds = refl
all_curves (c ∷ cs) ds = ap (with_curve c) (all_curves cs ds)

pub all_faulty : (cs : List Curve) (r : Refusal) → with_all cs (faulty r) ≡ faulty r
all_faulty [] r = refl
all_faulty (c ∷ cs) r = ap (with_curve c) (all_faulty cs r)

module _ (ns : List ℤ) where
  pub place_grows : (at k : ℕ) → at ≤ place_of ns at k
  place_grows at zero = omega arith
  place_grows at (suc k) = omega (arith, place_grows (next_at ns at) k)

  pub place_next : (at k : ℕ) → place_of ns at (suc k) ≡ next_at ns (place_of ns at k)
  place_next at zero = refl
  place_next at (suc k) = place_next (next_at ns at) k

  module _ (m : ℕ) where
    pub rest_at : (left at k : ℕ) (cs : List Curve) → outline_from left m ns at ≡ curves cs → k ≤ length cs
        → outline_from (left - k) m ns (place_of ns at k) ≡ curves (drop k cs)
    rest_at left at zero cs e h = let x : left - 0 ≡ left = omega arith in rw x e
    rest_at left at (suc k) [] e h = absurd (not-suc-le-zero h)
    rest_at left at (suc k) (c ∷ cs) e h =
        let b = outline_begins left m ns at c cs e in
        let x : left - suc k ≡ left - 1 - k = omega arith in
        rw x (rest_at (left - 1) (next_at ns at) k cs b.rest (le_of_suc-le-suc h))

    -- a list with the same numbers up to where curve k begins
    module _ (ns' : List ℤ) (p : ℕ) (same : (i : ℕ) → i < p → entry ns' i ≡ entry ns i) (inside : p ≤ length ns') where
      meets_front : (at : ℕ) → at + 2 < p → meets_before ns' at ≡ meets_before ns at
      meets_front at h = go (ltb at 2) refl
        where
          go : (b : Bool) → ltb at 2 ≡ b
              → b || (equal (entry ns' (at - 2)) (entry ns' (at + 1)) && equal (entry ns' (at - 1)) (entry ns' (at + 2)))
              ≡ b || (equal (entry ns (at - 2)) (entry ns (at + 1)) && equal (entry ns (at - 1)) (entry ns (at + 2)))
          go true e = refl
          go false e = rw (same (at - 2) (omega arith), same (at - 1) (omega arith), same (at + 1) (omega arith), same (at + 2) h)

      pub front_same : (left at k : ℕ) (cs : List Curve) → outline_from left m ns at ≡ curves cs → k ≤ length cs → place_of ns at k ≡ p
          → outline_from left m ns' at ≡ with_all (take k cs) (outline_from (left - k) m ns' p)
      front_same left at zero cs e h o = let x : left - 0 ≡ left = omega arith in rw (x, o)
      front_same left at (suc k) [] e h o = absurd (not-suc-le-zero h)
      front_same zero at (suc k) (c ∷ cs) e h o = absurd (not-suc-le-zero (outline_begins 0 m ns at c cs e).some)
      front_same (suc left) at (suc k) (c ∷ cs) e h o =
          let b = outline_begins (suc left) m ns at c cs e in
          let s = sound m ns at b.no_fault in
          let n = 1 + coordinates (degree_at ns at) in
          let grows : next_at ns at ≤ p = omega (arith, place_grows (next_at ns at) k, o) in
          let there : (j : ℕ) → j < n → entry ns' (at + j) ≡ entry ns (at + j) = (λ j l. same (at + j) (omega arith)) in
          let none_here = sound_none m ns' at (same_sound ns ns' at at there m s (omega arith))
          (meets_front at (omega arith) ∙ (faultless m ns at b.no_fault).meets) in
          let x : suc left - 1 ≡ left = omega arith in
          let y : suc left - suc k ≡ left - k = omega arith in
          let z : at + n ≡ next_at ns at = omega arith in
          outline_step m ns' at left none_here
          ∙ ap₂ with_curve (same_curve ns ns' at at there ∙ sym b.is)
          (ap (outline_from left m ns') (same_next ns ns' at at there ∙ z)
          ∙ front_same left (next_at ns at) k cs (rw x at b.rest) (le_of_suc-le-suc h) o
          ∙ ap (λ l. with_all (take k cs) (outline_from l m ns' p)) (sym y))

-- ---- the whole
abbrev pub outlined_or : Option Refusal → List Curve → Outlined
outlined_or (some r) cs = faulty r
outlined_or none cs = curves cs

module _ (left m : ℕ) (ns new : List ℤ) (k : ℕ) (cs : List Curve) (accepted : outline_from left m ns 0 ≡ curves cs) (less : k < length cs)
    (long : length new ≡ 13) where
  abbrev at : ℕ
  at = place_of ns 0 k

  abbrev next : ℕ
  next = place_of ns 0 (suc k)

  -- the curve that gives way
  pub old : (c : Curve) × (ds : List Curve) × (drop k cs ≡ c ∷ ds) × (drop (suc k) cs ≡ ds)
  old = go k cs less
    where
      go : (k : ℕ) (cs : List Curve) → k < length cs → (c : Curve) × (ds : List Curve) × (drop k cs ≡ c ∷ ds) × (drop (suc k) cs ≡ ds)
      go k [] h = absurd (not-suc-le-zero h)
      go zero (c ∷ cs) h = (c, cs, refl, refl)
      go (suc k) (c ∷ cs) h = go k cs (le_of_suc-le-suc h)

  pub old_begins : Begins (left - k) m ns at old.0 old.1
  old_begins = outline_begins (left - k) m ns at old.0 old.1 (rest_at ns m left 0 k cs accepted (omega arith) ∙ ap curves old.2)

  pub old_next : next ≡ next_at ns at
  old_next = place_next ns 0 k

  abbrev whole : List ℤ
  whole = put ns at next new

  inside : at ≤ length ns
  inside = omega (arith, old_begins.inside)

  behind : next ≤ length ns
  behind = omega (arith, old_begins.ends, old_next)

  rest : outline_from (left - k - 1) m ns next ≡ curves (drop (suc k) cs)
  rest = ap (outline_from (left - k - 1) m ns) old_next ∙ old_begins.rest ∙ ap curves (sym old.3)

  front : outline_from left m whole 0 ≡ with_all (take k cs) (outline_from (left - k) m whole at)
  front = front_same ns m whole at (put_before ns new at next inside) (omega (arith, begun ns new at next inside (omega arith))) left 0 k cs accepted
      (omega arith) refl

  here : (r : Refusal) → fault_at m whole at ≡ some r → outline_from (left - k) m whole at ≡ faulty r
  here r e =
      let x : left - k ≡ suc (left - k - 1) = omega (arith, old_begins.some) in
      rw x (outline_faulty m whole at (left - k - 1) r (begun ns new at next inside (omega arith)) e)

  on : (fine : degree_fine (entry new 0) ≡ true) → fault_at m whole at ≡ none → outline_from (left - k) m whole at
      ≡ with_curve (curve_at new 0) (elim (meets_next ns next new) [ true ↦ curves (drop (suc k) cs) | false ↦ faulty (Gap (at + next_at new 0)) ])
  on fine e =
      let x : left - k ≡ suc (left - k - 1) = omega (arith, old_begins.some) in
      rw x (outline_step m whole at (left - k - 1) e
      ∙ ap₂ with_curve (new_curve m ns new at next inside behind long fine)
      (ap (outline_from (left - k - 1) m whole) (new_next m ns new at next inside behind long fine)
      ∙ after_new m ns new at next inside behind long fine (left - k - 1) (drop (suc k) cs) rest))

  pub changed_outline : outline_from left m (changed ns k new) 0
      ≡ outlined_or (changed_fault m ns at next new) (take k cs ++ curve_at new 0 ∷ drop (suc k) cs)
  unfolding changed_fault
  changed_outline = front ∙ go (own_fault m new at) refl
    where
      go : (o : Option Refusal) → own_fault m new at ≡ o
          → with_all (take k cs) (outline_from (left - k) m whole at) ≡ outlined_or (elim o [
            | some r ↦ some r
            | none ↦
                elim (meets_old ns at new) [
                  | false ↦ some (Gap at)
                  | true ↦ elim (meets_next ns next new) [ true ↦ none | false ↦ some (Gap (at + next_at new 0)) ]
                ]
          ]) (take k cs ++ curve_at new 0 ∷ drop (suc k) cs)
      go (some r) e = ap (with_all (take k cs)) (here r (own_there m ns new at next inside behind long r e)) ∙ all_faulty (take k cs) r
      go none e = middle (meets_old ns at new) refl (meets_next ns next new) refl
        where
          fine : degree_fine (entry new 0) ≡ true
          fine = own_fine m new at e

          found : Sound m whole at
          found = own_sound m ns new at next inside behind long e

          meets : meets_before whole at ≡ meets_old ns at new
          meets = meets_there m ns new at next inside behind long fine

          middle : (t : Bool) → meets_old ns at new ≡ t → (u : Bool) → meets_next ns next new ≡ u
              → with_all (take k cs) (outline_from (left - k) m whole at) ≡ outlined_or (elim t [
                | false ↦ some (Gap at)
                | true ↦ elim u [ true ↦ none | false ↦ some (Gap (at + next_at new 0)) ]
              ]) (take k cs ++ curve_at new 0 ∷ drop (suc k) cs)
          middle false f u g =
              ap (with_all (take k cs)) (here (Gap at) (sound_gap m whole at found (meets ∙ f))) ∙ all_faulty (take k cs) (Gap at)
          middle true f true g =
              ap (with_all (take k cs)) (on fine (sound_none m whole at found (meets ∙ f)) ∙ rw g)
              ∙ all_curves (take k cs) (curve_at new 0 ∷ drop (suc k) cs)
          middle true f false g =
              ap (with_all (take k cs)) (on fine (sound_none m whole at found (meets ∙ f)) ∙ rw g)
              ∙ all_faulty (take k cs) (Gap (at + next_at new 0))
