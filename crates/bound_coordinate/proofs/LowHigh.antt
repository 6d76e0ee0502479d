-- The bounds as the code computes them, from rows that were copied out of the table, are the low and the high of the definitions.
use mathlib.Core.Path.{◌≡◌, refl, sym, ◌∙◌, ap, ap₂}
use mathlib.Core.Bool.{Bool, true, false, cond}
use mathlib.Core.List.{List, [], ◌∷◌}
use mathlib.Core.Logic.{⊎_elim}
use Prim.Native.Nat.{ℕ, zero, suc, ◌+◌, ◌*◌, ◌^◌, ◌≤◌, ◌<◌}
use native.Mathlib.Nat.{add-zero}
use native.Mathlib.Omega.{arith}
use lib.Dec.{eqb, ltb}
use lib.ListN.{length}
use lib.IntN.{ℤ, pos, ◌+ℤ◌, ◌-ℤ◌, ◌*ℤ◌, *ℤ-zero, zero-*ℤ}
use lib.Signed.{lt_z}
use borrow.Author.Tests.{lt-ltb, le-ltb}
use Rattle.setting.specs.Setting.{Setting, HasRows, scale, most_degree, degree_pieces}
use Rattle.integers.specs.Entry.{entry}
use Rattle.integers.specs.Rounding.{floor, ceiling}
use Rattle.integers.proofs.Ring.{ring, sides}
use Rattle.integers.proofs.Order.{lt_or_ge}
use Rattle.curve_nodes.specs.Differences.{difference}
use Rattle.bound_rows.specs.Rows.{Row, row_at}
use Rattle.bound_rows.specs.Table.{rows_of}
use Rattle.bound_row_table.specs.Inside.{blocks_of, row_place, triple_at, Copied}
use Rattle.bound_rows.proofs.Rule.{rows_count}
use Rattle.bound_enclosure.specs.Bounds.{swapped, chord, row_sum}
use Rattle.bound_enclosure.specs.AtDepth.{low_of, high_of}
use Rattle.bound_enclosure.proofs.Reduced.{low_reduced, high_reduced}
use Rattle.bound_coordinate.specs.Terms.{chosen, terms_of, chord_at, denominator_of, low_by, high_by}
use Rattle.bound_coordinate.specs.HigherTerms.{raise_of, higher_of, higher_low, higher_high}
use Rattle.bound_coordinate.proofs.Coordinates.{over_positive}
use Rattle.bound_coordinate.proofs.Quotients.{denominator_positive}
use Rattle.bound_coordinate.proofs.Raised.{floor_off, ceiling_off}

-- ---- the sum of row × difference, for at most two differences, and for three or four
-- the entry by which a difference is multiplied: it chooses its row by its own sign
abbrev factor : List Row → ℕ → ℕ → ℤ → ℤ
factor ρs i k δ = cond (lt_z δ (pos 0)) (entry (row_at ρs k).low i) (entry (row_at ρs k).high i)

-- a row that the degree does not have is empty
no_row : (ρs : List Row) (k : ℕ) → length ρs ≤ k → row_at ρs k ≡ record { high = []; low = [] }
no_row [] k l = refl
no_row (ρ ∷ ρs) zero l = absurd (omega arith)
no_row (ρ ∷ ρs) (suc k) l = no_row ρs k (omega arith)

either : {x : ℤ} (b : Bool) → cond b x x ≡ x
either true = refl
either false = refl

module _ (cs : List ℤ) (i : ℕ) where
  abbrev term : List Row → ℕ → ℤ
  term ρs k = factor ρs i k (difference cs k) *ℤ difference cs k

  no_term : (k : ℕ) → term [] k ≡ pos 0
  no_term k = ap (λ z. z *ℤ difference cs k) (either (lt_z (difference cs k) (pos 0))) ∙ zero-*ℤ (difference cs k)

  sum_two : (ρs : List Row) → length ρs ≤ 2 → row_sum ρs i 0 cs ≡ term ρs 0 +ℤ term ρs 1
  unfolding row_sum
  sum_two [] l = sym (ap₂ ◌+ℤ◌ (no_term 0) (no_term 1))
  sum_two (ρ ∷ []) l = ap (λ z. term (ρ ∷ []) 0 +ℤ z) (sym (no_term 1))
  sum_two (ρ ∷ σ ∷ []) l = let ρs : List Row = ρ ∷ σ ∷ [] in ring (term ρs 0 ∷ term ρs 1 ∷ []) (search sides depth 20) refl
  sum_two (ρ ∷ σ ∷ τ ∷ ρs) l = absurd (omega arith)

  -- the fourth at degree 5 alone
  sum_higher : (ρs : List Row) {d : ℕ} → 4 ≤ d → d ≤ 5 → length ρs + 1 ≡ d
      → row_sum ρs i 0 cs ≡ term ρs 0 +ℤ term ρs 1 +ℤ term ρs 2 +ℤ cond (ltb d 5) (pos 0) (term ρs 3)
  unfolding row_sum
  sum_higher [] h l e = absurd (omega arith)
  sum_higher (ρ ∷ []) h l e = absurd (omega arith)
  sum_higher (ρ ∷ σ ∷ []) h l e = absurd (omega arith)
  sum_higher (ρ ∷ σ ∷ τ ∷ []) {d} h l e =
      let ρs : List Row = ρ ∷ σ ∷ τ ∷ [] in
      ring (term ρs 0 ∷ term ρs 1 ∷ term ρs 2 ∷ []) {b = term ρs 0 +ℤ term ρs 1 +ℤ term ρs 2 +ℤ pos 0} (search sides depth 20) refl
      ∙ ap (λ (b : Bool). term ρs 0 +ℤ term ρs 1 +ℤ term ρs 2 +ℤ cond b (pos 0) (term ρs 3)) (sym (lt-ltb d 5 (omega arith)))
  sum_higher (ρ ∷ σ ∷ τ ∷ υ ∷ []) {d} h l e =
      let ρs : List Row = ρ ∷ σ ∷ τ ∷ υ ∷ [] in
      ring (term ρs 0 ∷ term ρs 1 ∷ term ρs 2 ∷ term ρs 3 ∷ []) {b = term ρs 0 +ℤ term ρs 1 +ℤ term ρs 2 +ℤ term ρs 3} (search sides depth 20) refl
      ∙ ap (λ (b : Bool). term ρs 0 +ℤ term ρs 1 +ℤ term ρs 2 +ℤ cond b (pos 0) (term ρs 3)) (sym (le-ltb d 5 (omega arith)))
  sum_higher (ρ ∷ σ ∷ τ ∷ υ ∷ φ ∷ ρs) h l e = absurd (omega arith)

-- rows swapped
swapped_length : (ρs : List Row) → length (swapped ρs) ≡ length ρs
swapped_length [] = refl
swapped_length (ρ ∷ ρs) = ap suc (swapped_length ρs)

swapped_at : (ρs : List Row) (k : ℕ) → row_at (swapped ρs) k ≡ record { high = (row_at ρs k).low; low = (row_at ρs k).high }
swapped_at [] k = refl
swapped_at (ρ ∷ ρs) zero = refl
swapped_at (ρ ∷ ρs) (suc k) = swapped_at ρs k

module _ (σ : Setting) (has : HasRows σ.pieces) {d : ℕ} (most : d ≤ most_degree) (takes : degree_pieces d σ.pieces ≡ true)
    (cs : List ℤ) {i : ℕ} (hi : i ≤ σ.pieces) where
  abbrev m : ℕ
  m = σ.pieces

  abbrev ρs : List Row
  ρs = rows_of m d

  abbrev δ : ℕ → ℤ
  δ = difference cs

  -- ---- the number that is divided: the chord, and m times the sum
  abbrev dividend : ℤ → ℤ
  dividend sum = chord_at (pos 10000 *ℤ (pos m *ℤ entry cs 0)) (pos 10000 *ℤ (entry cs d -ℤ entry cs 0)) i +ℤ sum

  chord_is : chord m d i cs ≡ chord_at (pos 10000 *ℤ (pos m *ℤ entry cs 0)) (pos 10000 *ℤ (entry cs d -ℤ entry cs 0)) i
  chord_is = ring (pos m ∷ pos i ∷ entry cs 0 ∷ entry cs d ∷ []) (search sides depth 20) refl

  two_fold : (a b : ℤ) → pos m *ℤ (a *ℤ δ 0 +ℤ b *ℤ δ 1) ≡ pos m *ℤ a *ℤ δ 0 +ℤ pos m *ℤ b *ℤ δ 1
  two_fold a b = ring (pos m ∷ a ∷ b ∷ δ 0 ∷ δ 1 ∷ []) (search sides depth 20) refl

  higher_fold : (t : Bool) (a b c e : ℤ) → pos m *ℤ (a *ℤ δ 0 +ℤ b *ℤ δ 1 +ℤ c *ℤ δ 2 +ℤ cond t (pos 0) (e *ℤ δ 3))
      ≡ pos m *ℤ a *ℤ δ 0 +ℤ pos m *ℤ b *ℤ δ 1 +ℤ pos m *ℤ c *ℤ δ 2 +ℤ cond t (pos 0) (pos m *ℤ e *ℤ δ 3)
  higher_fold true a b c e = ring (pos m ∷ a ∷ b ∷ c ∷ δ 0 ∷ δ 1 ∷ δ 2 ∷ []) (search sides depth 20) refl
  higher_fold false a b c e = ring (pos m ∷ a ∷ b ∷ c ∷ e ∷ δ 0 ∷ δ 1 ∷ δ 2 ∷ δ 3 ∷ []) (search sides depth 20) refl

  -- raised as degrees 4 and 5 have it
  abbrev lifted : ℕ → ℤ → ℤ
  lifted s sum = chord_at (pos 10000 *ℤ (pos m *ℤ entry cs 0) +ℤ raise_of m s) (pos 10000 *ℤ (entry cs d -ℤ entry cs 0)) i +ℤ sum

  lifted_is : (s : ℕ) (sum : ℤ) → lifted s sum ≡ raise_of m s +ℤ dividend sum
  lifted_is s sum = regrouped (pos 10000 *ℤ (pos m *ℤ entry cs 0)) (pos i *ℤ (pos 10000 *ℤ (entry cs d -ℤ entry cs 0))) sum (raise_of m s)
    where
      regrouped : (x y z R : ℤ) → x +ℤ R +ℤ y +ℤ z ≡ R +ℤ (x +ℤ y +ℤ z)
      regrouped x y z R = ring (x ∷ y ∷ z ∷ R ∷ []) (search sides depth 20) refl

  module _ (s : ℕ) (sum : ℤ) where
    abbrev D : ℤ
    D = denominator_of m s

    low_lifted : floor (lifted s sum) D -ℤ pos (2 ^ 28) ≡ floor (dividend sum) D
    low_lifted = ap (λ n. floor n D -ℤ pos (2 ^ 28)) (lifted_is s sum) ∙ floor_off (denominator_positive has.least s) (pos (2 ^ 28)) (dividend sum)

    high_lifted : ceiling (lifted s sum) D -ℤ pos (2 ^ 28) ≡ ceiling (dividend sum) D
    high_lifted = ap (λ n. ceiling n D -ℤ pos (2 ^ 28)) (lifted_is s sum) ∙ ceiling_off (denominator_positive has.least s) (pos (2 ^ 28)) (dividend sum)

  module _ (k : ℕ) where
    abbrev low_factor : ℕ → ℤ
    low_factor j = factor (swapped ρs) i j (δ j)

    abbrev high_factor : ℕ → ℤ
    high_factor j = factor ρs i j (δ j)

    -- the scale stands beside m
    divisor_is : pos 625 *ℤ pos m *ℤ pos (scale σ * 2 ^ (d * k)) ≡ denominator_of (m * scale σ) (d * k)
    divisor_is = ring (pos m ∷ pos (scale σ) ∷ pos (2 ^ (d * k)) ∷ []) (search sides depth 20) refl

    low_divided : {sum : ℤ} → pos m *ℤ row_sum (swapped ρs) i 0 cs ≡ sum
        → low_of σ d k cs i ≡ floor (dividend sum) (denominator_of (m * scale σ) (d * k))
    low_divided e = low_reduced has.least (over_positive σ d k) ρs d cs i ∙ ap₂ floor (ap₂ ◌+ℤ◌ chord_is e) divisor_is

    high_divided : {sum : ℤ} → pos m *ℤ row_sum ρs i 0 cs ≡ sum
        → high_of σ d k cs i ≡ ceiling (dividend sum) (denominator_of (m * scale σ) (d * k))
    high_divided e = high_reduced has.least (over_positive σ d k) ρs d cs i ∙ ap₂ ceiling (ap₂ ◌+ℤ◌ chord_is e) divisor_is

    -- ---- the rows that the terms choose
    module _ {rows : List ℤ} (h : Copied m rows) where
      abbrev Read : (p j t : ℕ) → Type 0
      Read p j t = entry rows (p + (3 * i + t)) ≡ pos m *ℤ triple_at (row_at ρs j) i t

      -- the numbers of a difference that the degree does not have are zeros
      row_read : (j t : ℕ) → t < 3 → Read (row_place d j) j t
      row_read j t ht = ⊎_elim (λ l. h.row d j i t most takes (omega arith) hi ht) none (lt_or_ge (j + 1) d)
        where
          none : d ≤ j + 1 → Read (row_place d j) j t
          none l =
              ap (λ (b : Bool). entry rows (cond b (blocks_of d + 27 * j) 81 + (3 * i + t))) (le-ltb (j + 1) d l)
              ∙ h.none (3 * i + t) (omega (arith, has.most))
              ∙ sym (ap (λ (ρ : Row). pos m *ℤ triple_at ρ i t) (no_row ρs j (omega (arith, rows_count m d)))
              ∙ ap (λ z. pos m *ℤ z) (either (eqb t 1)) ∙ *ℤ-zero (pos m))

      high_read : (j : ℕ) → pos m *ℤ high_factor j ≡ entry rows (chosen (δ j) (row_place d j) + 3 * i)
      high_read j = sym (cases (lt_z (δ j) (pos 0)))
        where
          cases : (b : Bool) → entry rows (cond b (row_place d j + 1) (row_place d j) + 3 * i)
              ≡ pos m *ℤ cond b (entry (row_at ρs j).low i) (entry (row_at ρs j).high i)
          cases true = ap (entry rows) {y = row_place d j + (3 * i + 1)} (omega arith) ∙ row_read j 1 (omega arith)
          cases false = ap (entry rows) {y = row_place d j + (3 * i + 0)} (omega arith) ∙ row_read j 0 (omega arith)

      low_read : (j : ℕ) → pos m *ℤ low_factor j ≡ entry rows (chosen (δ j) (row_place d j) + (3 * i + 1))
      low_read j = sym (cases (lt_z (δ j) (pos 0))
          ∙ ap (λ (ρ : Row). pos m *ℤ cond (lt_z (δ j) (pos 0)) (entry ρ.low i) (entry ρ.high i)) (sym (swapped_at ρs j)))
        where
          cases : (b : Bool) → entry rows (cond b (row_place d j + 1) (row_place d j) + (3 * i + 1))
              ≡ pos m *ℤ cond b (entry (row_at ρs j).high i) (entry (row_at ρs j).low i)
          cases true = ap (entry rows) {y = row_place d j + (3 * i + 2)} (omega arith) ∙ row_read j 2 (omega arith)
          cases false = row_read j 1 (omega arith)

      -- ---- degrees 1 to 3
      module _ (few : d ≤ 3) where
        pub low_is : low_by (σ.pieces * scale σ) (d * k) rows (terms_of m d cs) i ≡ low_of σ d k cs i
        unfolding low_by terms_of
        low_is = sym (low_divided (ap (λ z. pos m *ℤ z) (sum_two cs i (swapped ρs) (omega (arith, swapped_length ρs, rows_count m d)))
            ∙ two_fold (low_factor 0) (low_factor 1) ∙ ap₂ (λ a b. a *ℤ δ 0 +ℤ b *ℤ δ 1) (low_read 0) (low_read 1)))

        pub high_is : high_by (σ.pieces * scale σ) (d * k) rows (terms_of m d cs) i ≡ high_of σ d k cs i
        unfolding high_by terms_of
        high_is = sym (high_divided (ap (λ z. pos m *ℤ z) (sum_two cs i ρs (omega (arith, rows_count m d)))
            ∙ two_fold (high_factor 0) (high_factor 1) ∙ ap₂ (λ a b. a *ℤ δ 0 +ℤ b *ℤ δ 1) (high_read 0) (high_read 1)))

      -- ---- degrees 4 and 5: the rows of a difference begin 27 numbers after those of the one before; the control values are whole
      module _ (many : 4 ≤ d) (units : σ.sixths ≡ false) where
        alone : m * scale σ ≡ m
        alone = ap (λ (b : Bool). m * cond b 6 1) units ∙ omega arith

        low_alone : {sum : ℤ} → pos m *ℤ row_sum (swapped ρs) i 0 cs ≡ sum → low_of σ d k cs i ≡ floor (dividend sum) (denominator_of m (d * k))
        low_alone {sum} e = low_divided e ∙ ap (λ (q : ℕ). floor (dividend sum) (denominator_of q (d * k))) alone

        high_alone : {sum : ℤ} → pos m *ℤ row_sum ρs i 0 cs ≡ sum → high_of σ d k cs i ≡ ceiling (dividend sum) (denominator_of m (d * k))
        high_alone {sum} e = high_divided e ∙ ap (λ (q : ℕ). ceiling (dividend sum) (denominator_of q (d * k))) alone

        place_is : (j : ℕ) → j + 1 < d → row_place d j ≡ row_place d 0 + 27 * j
        place_is j l =
            ap (λ (b : Bool). cond b (blocks_of d + 27 * j) 81) (lt-ltb (j + 1) d l)
            ∙ sym (ap (λ (b : Bool). cond b (blocks_of d + 0) 81 + 27 * j) (lt-ltb 1 d (omega arith)) ∙ ap (λ (n : ℕ). n + 27 * j) (add-zero (blocks_of d)))

        at_place : {x : ℤ} (j t : ℕ) → j + 1 < d → x ≡ entry rows (chosen (δ j) (row_place d j) + t) → x ≡ entry rows (chosen (δ j) (row_place d 0 + 27 * j) + t)
        at_place j t l e = e ∙ ap (λ (p : ℕ). entry rows (chosen (δ j) p + t)) (place_is j l)

        fourth : {x y : ℤ} → (4 < d → x ≡ y) → cond (ltb d 5) (pos 0) (x *ℤ δ 3) ≡ cond (ltb d 5) (pos 0) (y *ℤ δ 3)
        fourth {x} {y} f = ⊎_elim
            (λ l. let q = lt-ltb d 5 l in
            ap (λ (b : Bool). cond b (pos 0) (x *ℤ δ 3)) q ∙ sym (ap (λ (b : Bool). cond b (pos 0) (y *ℤ δ 3)) q))
            (λ l. ap (λ z. cond (ltb d 5) (pos 0) (z *ℤ δ 3)) (f l)) (lt_or_ge d 5)

        pub higher_low_is : higher_low m (d * k) rows (higher_of m d (d * k) cs) i ≡ low_of σ d k cs i
        unfolding higher_low higher_of
        higher_low_is = low_lifted (d * k) _ ∙ sym (low_alone (ap (λ z. pos m *ℤ z)
            (sum_higher cs i (swapped ρs) many most (omega (arith, swapped_length ρs, rows_count m d)))
            ∙ higher_fold (ltb d 5) (low_factor 0) (low_factor 1) (low_factor 2) (low_factor 3)
            ∙ (λ j. low_read 0 j *ℤ δ 0 +ℤ at_place 1 (3 * i + 1) (omega arith) (low_read 1) j *ℤ δ 1
            +ℤ at_place 2 (3 * i + 1) (omega arith) (low_read 2) j *ℤ δ 2 +ℤ fourth (λ l. at_place 3 (3 * i + 1) l (low_read 3)) j)))

        pub higher_high_is : higher_high m (d * k) rows (higher_of m d (d * k) cs) i ≡ high_of σ d k cs i
        unfolding higher_high higher_of
        higher_high_is = high_lifted (d * k) _ ∙ sym (high_alone (ap (λ z. pos m *ℤ z)
            (sum_higher cs i ρs many most (omega (arith, rows_count m d)))
            ∙ higher_fold (ltb d 5) (high_factor 0) (high_factor 1) (high_factor 2) (high_factor 3)
            ∙ (λ j. high_read 0 j *ℤ δ 0 +ℤ at_place 1 (3 * i) (omega arith) (high_read 1) j *ℤ δ 1
            +ℤ at_place 2 (3 * i) (omega arith) (high_read 2) j *ℤ δ 2 +ℤ fourth (λ l. at_place 3 (3 * i) l (high_read 3)) j)))
