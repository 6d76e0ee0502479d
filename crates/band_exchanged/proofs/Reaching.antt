-- Check 23 by how far the numbers given agree with the outline's records, as the pass over the curves finds it.
use mathlib.Core.Path.{◌≡◌, refl, sym, ◌∙◌, ap, ap₂}
use mathlib.Core.Bool.{Bool, true, false, ◌&&◌}
use mathlib.Core.List.{List, [], ◌∷◌}
use mathlib.Core.Option.{Option, none, some}
use mathlib.Core.Logic.{⊎_elim}
use Prim.Native.Nat.{ℕ, suc, ◌≤◌, ◌<◌, min}
use native.Mathlib.Nat.{min-eq_left, min-eq_right, le_of_lt}
use native.Mathlib.Omega.{arith}
use borrow.Author.Tests.{le-leb, lt-leb, eq-eqb, ne_eqb, eqb-true, leb-true}
use lib.Dec.{eqb, leb}
use lib.ListN.{length, take, drop, drop_of_length-le}
use lib.Seq.{take_all, take-length, length-take-le, get_or-take}
use lib.IntN.{ℤ, pos}
use Rattle.integers.specs.Entry.{entry}
use Rattle.integers.specs.Equal.{equal}
use Rattle.integers.proofs.Clash.{clash}
use Rattle.integers.proofs.Order.{lt_or_ge}
use Rattle.band_comparing.specs.Inside.{reach_number, reach_of}
use Rattle.band_comparing.proofs.ReachLaws.{number_past, number_same, number_other}
use Rattle.band_exchanged.specs.Exchange.{first_different, other_records}
use Rattle.band_exchanged.proofs.Differences.{over_right, over_left, differ_here, same_here, differ_inside, none_different}

-- ---- how far lists agree: up to the first index at which they differ, or as far as was to be compared
abbrev pub reached : Option ℕ → (shown : ℕ) → ℕ
reached o shown = elim o [ some j ↦ j | none ↦ shown ]

reach_past : (g : List ℤ) (r i : ℕ) (xs : List ℤ) → r ≤ i → reach_of g r i xs ≡ r
unfolding reach_of
reach_past g r i [] h = refl
reach_past g r i (x ∷ xs) h = ap (λ q. reach_of g q (suc i) xs) (number_past g r i x h) ∙ reach_past g r (suc i) xs (omega arith)

module _ (g : List ℤ) (shown : ℕ) (h : shown ≤ length g) where
  abbrev part : List ℤ
  part = take shown g

  part_long : length part ≡ shown
  part_long = length-take-le shown g h

  reach_is : (i : ℕ) (own : List ℤ) → reach_of g shown i own ≡ reached (first_different (drop i part) own i) shown
  unfolding reach_of
  reach_is i [] = sym (ap (λ o. reached o shown) (over_right (drop i part) i))
  reach_is i (x ∷ xs) = ⊎_elim (inside (reach_is (suc i) xs)) past (lt_or_ge i shown)
    where
      past : shown ≤ i → reach_of g (reach_number g shown i x) (suc i) xs ≡ reached (first_different (drop i part) (x ∷ xs) i) shown
      past l =
          ap (λ q. reach_of g q (suc i) xs) (number_past g shown i x l) ∙ reach_past g shown (suc i) xs (omega arith)
          ∙ sym (ap (λ o. reached o shown)
          (ap (λ l. first_different l (x ∷ xs) i) (drop_of_length-le part {i = i} (omega (arith, part_long))) ∙ over_left (x ∷ xs) i))

      inside : reach_of g shown (suc i) xs ≡ reached (first_different (drop (suc i) part) xs (suc i)) shown → i < shown
          → reach_of g (reach_number g shown i x) (suc i) xs ≡ reached (first_different (drop i part) (x ∷ xs) i) shown
      inside on l = go (equal (entry g i) x) refl
        where
          same : entry part i ≡ entry g i
          same = get_or-take shown g i (pos 0) l

          go : (b : Bool) → equal (entry g i) x ≡ b
              → reach_of g (reach_number g shown i x) (suc i) xs ≡ reached (first_different (drop i part) (x ∷ xs) i) shown
          go true e =
              ap (λ q. reach_of g q (suc i) xs) (number_same g shown i x e) ∙ on
              ∙ sym (ap (λ o. reached o shown)
              (same_here part x xs i i (omega (arith, part_long)) (ap (λ z. equal z x) same ∙ e)))
          go false e =
              ap (λ q. reach_of g q (suc i) xs) (number_other g shown i x l e) ∙ reach_past g i (suc i) xs (omega arith)
              ∙ sym (ap (λ o. reached o shown)
              (differ_here part x xs i i (omega (arith, part_long)) (ap (λ z. equal z x) same ∙ e)))

-- ---- 23: what is compared is as many numbers as were given, or as the list has
shown_all : (count : ℕ) (l : List ℤ) → take (min count (length l)) l ≡ take count l
shown_all count l = ⊎_elim
    (λ h. ap (λ n. take n l) (min-eq_left (le_of_lt h)))
    (λ h. ap (λ n. take n l) (min-eq_right h) ∙ take-length l ∙ sym (take_all count l h))
    (lt_or_ge count (length l))

module _ (count : ℕ) (lent own : List ℤ) where
  abbrev shown : ℕ
  shown = min count (length lent)

  abbrev found : Option ℕ
  found = first_different (take count lent) own 0

  shown_inside : shown ≤ length lent
  shown_inside = omega arith

  reach_found : reach_of lent shown 0 own ≡ reached found shown
  reach_found = reach_is lent shown shown_inside 0 own ∙ ap (λ l. reached (first_different l own 0) shown) (shown_all count lent)

  -- where they differ is before the end of both
  found_inside : (j : ℕ) → found ≡ some j → (j < shown) × (j < length own)
  found_inside j e =
      let w = differ_inside (take shown lent) own 0 j (ap (λ l. first_different l own 0) (shown_all count lent) ∙ e) in
      (omega (arith, w.0, length-take-le shown lent shown_inside), omega (arith, w.1))

  abbrev verdict : Option ℕ → Bool → Option ℕ
  verdict o fine = elim o [ some i ↦ some i | none ↦ elim fine [ true ↦ none | false ↦ some (min count (min (length lent) (length own))) ] ]

  by_found : (o : Option ℕ) → found ≡ o → other_records count lent own ≡ verdict o (eqb count (length own) && leb count (length lent))
  unfolding other_records
  by_found o e = rw (other_records, e)

  not_fine : (b : Bool) → b ≡ false → verdict none b ≡ some (min count (min (length lent) (length own)))
  not_fine b e = ap (verdict none) e

  and_no : (a b : Bool) → b ≡ false → a && b ≡ false
  and_no true b e = e
  and_no false b e = refl

  module _ (reach : ℕ) (is : reach ≡ reach_of lent (min count (length lent)) 0 own) where
    reach_by : (o : Option ℕ) → found ≡ o → reach ≡ reached o shown
    reach_by o e = is ∙ reach_found ∙ ap (λ q. reached q shown) e

    -- not as far as the count
    pub others_reach : (reach ≡ count → ⊥) → other_records count lent own ≡ some (min reach (length own))
    others_reach h = go found refl
      where
        go : (o : Option ℕ) → found ≡ o → other_records count lent own ≡ some (min reach (length own))
        go (some j) e = by_found (some j) e ∙ ap some {x = j} {y = min reach (length own)} (omega (arith, reach_by (some j) e, (found_inside j e).1))
        go none e =
            let r = reach_by none e in
            let short : length lent < count = ⊎_elim (λ l. l) (λ l. absurd (h (omega (arith, r)))) (lt_or_ge (length lent) count) in
            by_found none e
            ∙ not_fine (eqb count (length own) && leb count (length lent)) (and_no (eqb count (length own)) _ (lt-leb count (length lent) short))
            ∙ ap some {x = min count (min (length lent) (length own))} {y = min reach (length own)} (omega (arith, r))

    module _ (all : reach ≡ count) where
      none_found : found ≡ none
      none_found = go found refl
        where
          go : (o : Option ℕ) → found ≡ o → o ≡ none
          go none e = refl
          go (some j) e = absurd (omega (arith, reach_by (some j) e, (found_inside j e).0, all))

      inside : count ≤ length lent
      inside = omega (arith, reach_by none none_found, all)

      -- as far, but the outline has other numbers of records
      pub others_long : (count ≡ length own → ⊥) → other_records count lent own ≡ some (min reach (length own))
      others_long h =
          by_found none none_found
          ∙ not_fine (eqb count (length own) && leb count (length lent)) (ap (λ b. b && leb count (length lent)) (ne_eqb count (length own) h))
          ∙ ap some {x = min count (min (length lent) (length own))} {y = min reach (length own)} (omega (arith, all, inside))

      pub others_none : count ≡ length own → other_records count lent own ≡ none
      others_none h =
          by_found none none_found
          ∙ ap₂ (λ a b. verdict none (a && b)) (eq-eqb count (length own) h) (le-leb count (length lent) inside)

  -- where nothing is refused, the numbers given are the outline's records
  pub others_are : other_records count lent own ≡ none → (take count lent ≡ own) × (count ≡ length own) × (count ≤ length lent)
  others_are = go found refl (eqb count (length own)) refl (leb count (length lent)) refl
    where
      go : (o : Option ℕ) → found ≡ o → (b : Bool) → eqb count (length own) ≡ b → (d : Bool) → leb count (length lent) ≡ d
          → other_records count lent own ≡ none → (take count lent ≡ own) × (count ≡ length own) × (count ≤ length lent)
      go (some i) e b f d g h = let z = sym (by_found (some i) e) ∙ h in clash (cc)
      go none e false f d g h =
          let z = sym (by_found none e ∙ ap (λ q. verdict none (q && leb count (length lent))) f) ∙ h in clash (cc)
      go none e true f false g h =
          let z = sym (by_found none e ∙ ap₂ (λ p q. verdict none (p && q)) f g) ∙ h in clash (cc)
      go none e true f true g h =
          let n = eqb-true count (length own) f in
          let l = leb-true count (length lent) g in
          (none_different (take count lent) own 0 (length-take-le count lent l ∙ n) e, n, l)
