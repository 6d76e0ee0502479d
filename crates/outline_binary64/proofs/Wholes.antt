-- A list of whole numbers gives what the list of these integers gives: the same curves, or the same fault with the same spot. Where a coordinate is no whole
-- number, 21 names it, and 4 never does.
use mathlib.Core.Path.{◌≡◌, refl, sym, ◌∙◌, ap, ap₂, subst}
use mathlib.Core.Bool.{Bool, true, false, not, ◌&&◌, true≢false}
use mathlib.Core.List.{List, [], ◌∷◌}
use mathlib.Core.Option.{Option, none, some}
use Prim.Native.Nat.{ℕ, zero, suc, ◌*◌, ◌/◌, ◌<◌}
use native.Mathlib.Nat.{not-suc-le-zero, le_of_suc-le-suc}
use native.Mathlib.Omega.{arith}
use borrow.Author.Tests.{eqb-true}
use lib.Dec.{ltb, eqb}
use lib.ListN.{length, get_or}
use lib.IntN.{ℤ}
use lib.Ieee.{Float, nan, inf, fin, up, down}
use Rattle.integers.proofs.Clash.{clash}
use Rattle.refusals.specs.declared.Refusal.{Refusal}
use Rattle.refusals.specs.declared.Refusal.TheVariants.{Degree, CutShort, Coordinate, TooManyCurves, EmptyOutline, Gap, DegreePieces, NotWhole}
use Rattle.refusals.specs.Refusals.{number_of, spot_of}
use Rattle.outline.specs.Curves.{next_at, curve_at}
use Rattle.outline.specs.Faults.{fault_at}
use Rattle.outline.proofs.Faultless.{Finding, no_degree, few_pieces, cut_short, beyond, gap, none_found, finding}
use Rattle.outline.specs.Checks.{Outlined, curves, faulty, with_curve, outline_from, outlined}
use Rattle.binary64.specs.Exact.{signed}
use Rattle.binary64.specs.Read.{whole_of, read_of}
use Rattle.binary64.proofs.Meaning.{read_number}
use Rattle.outline_binary64.specs.Lists.{number_for, wholes, named, with_named, outlined_binary64}
use Rattle.outline_binary64.specs.Wholes.{Numbers, none as no_numbers, more}
use Rattle.outline_binary64.proofs.Numbers.{wholes_length}
use Rattle.outline_binary64.proofs.Named.{whole_fault}

wholes_are : {xs : List Float} {zs : List ℤ} → Numbers xs zs → wholes xs ≡ zs
wholes_are no_numbers = refl
wholes_are (more x z n ns) = ap₂ ◌∷◌ (ap number_for (read_number x z n)) (wholes_are ns)

some_whole : (x : Float) (z : ℤ) → read_of x ≡ some z → whole_of x ≡ true
some_whole nan z e = clash (cc)
some_whole (inf s) z e = clash (cc)
some_whole (fin s m e) z h = go (whole_of (fin s m e)) (signed s (m * up e / down e)) h
  where
    go : (b : Bool) (q : ℤ) → ◌≡◌ {A = Option ℤ} (elim b [ true ↦ some q | false ↦ none ]) (some z) → b ≡ true
    go true q f = refl
    go false q f = clash (cc)

each_whole : {xs : List Float} {zs : List ℤ} → Numbers xs zs → (i : ℕ) → i < length xs → whole_of (get_or xs i nan) ≡ true
each_whole no_numbers i h = absurd (not-suc-le-zero h)
each_whole (more x z n ns) zero h = some_whole x z (read_number x z n)
each_whole (more x z n ns) (suc i) h = each_whole ns i (le_of_suc-le-suc h)

-- ---- of a list of integers 4 is said of a number of the list, and 21 never
record Inside (n : ℕ) (r : Refusal) : Type 0 where
  four : number_of r ≡ 4 → spot_of r < n
  no_21 : number_of r ≡ 21 → ⊥

fault_inside : (m : ℕ) (ns : List ℤ) (at : ℕ) (r : Refusal) → fault_at m ns at ≡ some r → Inside (length ns) r
fault_inside m ns at r = go (fault_at m ns at) (finding m ns at)
  where
    other : (q : Refusal) → (number_of q ≡ 4 → ⊥) → (number_of q ≡ 21 → ⊥) → ◌≡◌ {A = Option Refusal} (some q) (some r) → Inside (length ns) r
    other q no-4 no_21 e = subst (Inside (length ns)) {x = q} {y = r} (cc) (record { four = λ f. absurd (no-4 f); no_21 = no_21 })

    go : (o : Option Refusal) → Finding m ns at o → o ≡ some r → Inside (length ns) r
    go _ no_degree e = other (Degree at) (λ n. omega arith) (λ n. omega arith) e
    go _ few_pieces e = other (DegreePieces at) (λ n. omega arith) (λ n. omega arith) e
    go _ cut_short e = other (CutShort (length ns)) (λ n. omega arith) (λ n. omega arith) e
    go _ (beyond i h) e = subst (Inside (length ns)) {x = Coordinate i} {y = r} (cc) (record { four = λ n. h; no_21 = λ n. omega arith })
    go _ (gap f) e = other (Gap at) (λ n. omega arith) (λ n. omega arith) e
    go _ (none_found f) e = clash (cc)

outline_inside : (left m : ℕ) (ns : List ℤ) (at : ℕ) (r : Refusal) → outline_from left m ns at ≡ faulty r → Inside (length ns) r
unfolding outline_from
outline_inside zero m ns at r = go (ltb at (length ns))
  where
    go : (b : Bool) → elim b [ true ↦ faulty (TooManyCurves at) | false ↦ curves [] ] ≡ faulty r → Inside (length ns) r
    go true e = subst (Inside (length ns)) {x = TooManyCurves at} {y = r} (cc) (record { four = λ n. absurd (omega arith); no_21 = λ n. omega arith })
    go false e = clash (cc)
outline_inside (suc left) m ns at r =
    go (ltb at (length ns)) (fault_at m ns at) (outline_from left m ns (next_at ns at)) (fault_inside m ns at) (outline_inside left m ns (next_at ns at) r)
  where
    go : (b : Bool) (o : Option Refusal) (rest : Outlined) → ((q : Refusal) → o ≡ some q → Inside (length ns) q) → (rest ≡ faulty r → Inside (length ns) r)
        → elim b [ false ↦ curves [] | true ↦ elim o [ some q ↦ faulty q | none ↦ with_curve (curve_at ns at) rest ] ] ≡ faulty r → Inside (length ns) r
    go false o rest f h e = clash (cc)
    go true (some q) rest f h e = f r (ap some (cc))
    go true none (curves cs) f h e = clash (cc)
    go true none (faulty q) f h e = h e

outlined_inside : (most m : ℕ) (ns : List ℤ) (r : Refusal) → outlined most m ns ≡ faulty r → Inside (length ns) r
unfolding outlined
outlined_inside most m [] r e = subst (Inside 0) {x = EmptyOutline} {y = r} (cc) (record { four = λ n. absurd (omega arith); no_21 = λ n. omega arith })
outlined_inside most m (z ∷ ns) r e = outline_inside most m (z ∷ ns) 0 r e

-- ---- the answer is that of the whole numbers
pub as_integers : (most m : ℕ) {xs : List Float} {zs : List ℤ} → Numbers xs zs → outlined_binary64 most m xs ≡ outlined most m zs
unfolding outlined_binary64
as_integers most m {xs} {zs} n =
    same (outlined most m (wholes xs)) (λ r e. subst (λ k. Inside k r) (wholes_length xs) (outlined_inside most m (wholes xs) r e))
    ∙ ap (outlined most m) (wholes_are n)
  where
    own_name : (r : Refusal) → Inside (length xs) r → named xs r ≡ r
    own_name r h = go (eqb (number_of r) 4) refl
      where
        choose : (b : Bool) → b ≡ false → elim b [ true ↦ NotWhole (spot_of r) | false ↦ r ] ≡ r
        choose true e = absurd (true≢false e)
        choose false e = refl

        go : (b : Bool) → eqb (number_of r) 4 ≡ b → elim (b && not (whole_of (get_or xs (spot_of r) nan))) [ true ↦ NotWhole (spot_of r) | false ↦ r ] ≡ r
        go true e = choose (not (whole_of (get_or xs (spot_of r) nan))) (ap not (each_whole n (spot_of r) (h.four (eqb-true (number_of r) 4 e))))
        go false e = refl

    same : (o : Outlined) → ((r : Refusal) → o ≡ faulty r → Inside (length xs) r) → with_named xs o ≡ o
    same (curves cs) h = refl
    same (faulty r) h = ap faulty (own_name r (h r refl))

-- ---- 4 names a whole number, and 21 none
module _ (most m : ℕ) (xs : List Float) (i : ℕ) where
  pub beyond_whole : outlined_binary64 most m xs ≡ faulty (Coordinate i) → whole_of (get_or xs i nan) ≡ true
  beyond_whole e =
      let f = whole_fault most m xs (Coordinate i) e in
      go f.own (eqb (number_of f.own) 4) (whole_of (get_or xs (spot_of f.own) nan)) refl refl (sym f.name)
    where
      go : (r : Refusal) (b w : Bool) → eqb (number_of r) 4 ≡ b → whole_of (get_or xs (spot_of r) nan) ≡ w
          → elim (b && not w) [ true ↦ NotWhole (spot_of r) | false ↦ r ] ≡ Coordinate i → whole_of (get_or xs i nan) ≡ true
      go r true true e f h = subst (λ q. whole_of (get_or xs (spot_of q) nan) ≡ true) h f
      go r true false e f h = clash (cc)
      go r false w e f h = absurd (true≢false (subst (λ q. eqb (number_of q) 4 ≡ false) h e))

  pub not_whole : outlined_binary64 most m xs ≡ faulty (NotWhole i) → whole_of (get_or xs i nan) ≡ false
  not_whole e =
      let f = whole_fault most m xs (NotWhole i) e in
      go f.own (outlined_inside most m (wholes xs) f.own f.is).no_21 (eqb (number_of f.own) 4) (whole_of (get_or xs (spot_of f.own) nan)) refl
      (sym f.name)
    where
      go : (r : Refusal) → (number_of r ≡ 21 → ⊥) → (b w : Bool) → whole_of (get_or xs (spot_of r) nan) ≡ w
          → elim (b && not w) [ true ↦ NotWhole (spot_of r) | false ↦ r ] ≡ NotWhole i → whole_of (get_or xs i nan) ≡ false
      go r never b false f h = go_false b h
        where
          go_false : (b : Bool) → elim (b && true) [ true ↦ NotWhole (spot_of r) | false ↦ r ] ≡ NotWhole i → whole_of (get_or xs i nan) ≡ false
          go_false true h = subst (λ q. whole_of (get_or xs q nan) ≡ false) {x = spot_of r} {y = i} (ap spot_of h) f
          go_false false h = absurd (never (ap number_of h))
      go r never true true f h = absurd (never (ap number_of h))
      go r never false true f h = absurd (never (ap number_of h))
