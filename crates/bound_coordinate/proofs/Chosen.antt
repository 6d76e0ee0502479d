-- The terms of a coordinate: what the code puts together is the definition's, how large it is, and that bounds can be computed from it.
use mathlib.Core.Path.{◌≡◌, refl, sym, ◌∙◌, ap, ap₂, subst}
use mathlib.Core.Bool.{Bool, true, false, cond}
use mathlib.Core.List.{List, [], ◌∷◌}
use Prim.Native.Nat.{ℕ, ◌+◌, ◌*◌, ◌-◌, ◌^◌, ◌≤◌}
use native.Mathlib.Nat.{le_trans, le_refl, le_of_eq, add-mul, mul-le-mul}
use native.Mathlib.Omega.{arith}
use lib.Dec.{ltb, lit≤}
use lib.IntN.{ℤ, pos, nat_abs, ◌+ℤ◌, ◌-ℤ◌, ◌*ℤ◌}
use lib.Signed.{lt_z}
use mir.Syntax.{w64}
use mir.Val.{SFits, to_z}
use Rattle.setting.specs.Setting.{HasRows}
use Rattle.integers.specs.Entry.{entry}
use Rattle.integers.proofs.Ring.{ring, sides}
use Rattle.integers.proofs.Ranges.{stored}
use Rattle.integers.proofs.Size.{Size, size_add, size_mul, size_neg}
use Rattle.integers.proofs.Machine.{fits!, is!, held_add, held_stored}
use Rattle.curve_halves.specs.Sizes.{Each}
use Rattle.curve_nodes.specs.Differences.{difference}
use Rattle.curve_nodes.proofs.Sizes.{difference_under}
use Rattle.bound_row_table.specs.Inside.{row_place, Copied}
use Rattle.bound_row_table.proofs.Copying.{low_place}
use Rattle.bound_coordinate.specs.Inside.{Computed}
use Rattle.bound_coordinate.specs.declared.terms.Terms.{Terms}
use Rattle.bound_coordinate.specs.declared.higher.HigherTerms.{HigherTerms}
use Rattle.bound_coordinate.specs.Terms.{chosen, terms_of, TermsWithin, Computable}
use Rattle.bound_coordinate.specs.HigherTerms.{raise_of, higher_of, HigherWithin, HigherComputable}
use Rattle.bound_coordinate.proofs.Coordinates.{shift_small, pieces, bounded}
use Rattle.bound_coordinate.proofs.Raised.{shifted_raise, held_raise}

-- ---- put together
pub last_computed : {B : ℕ} {cs : List ℤ} {r : ℤ} (d : ℕ) → Each B cs → r ≡ entry cs d → Computed B (entry cs d) r
last_computed {B} d h e = record { is = e; size = subst (λ z. nat_abs z ≤ B) (sym e) (h.under d) }

-- δ and ε are the second differences, p and q where their rows begin
module _ (m d : ℕ) (cs : List ℤ) {start step δ ε : ℤ} {p q : ℕ}
    (es : start ≡ pos 10000 *ℤ (pos m *ℤ entry cs 0)) (et : step ≡ pos 10000 *ℤ (entry cs d -ℤ entry cs 0))
    (eδ : δ ≡ difference cs 0) (eε : ε ≡ difference cs 1) (ep : p ≡ row_place d 0) (eq : q ≡ row_place d 1) where
  pub terms_are : {r s : ℕ} → r ≡ chosen δ p → s ≡ chosen ε q
      → ◌≡◌ {A = Terms} (record { start = start; step = step; difference0 = δ; difference1 = ε; row0 = r; row1 = s }) (terms_of m d cs)
  unfolding terms_of
  terms_are e f = λ j. record {
    start = es j;
    step = et j;
    difference0 = eδ j;
    difference1 = eε j;
    row0 = (e ∙ ap₂ (λ x y. chosen x y) eδ ep) j;
    row1 = (f ∙ ap₂ (λ x y. chosen x y) eε eq) j;
  }

-- the chosen rows of degrees 4 and 5, which begin from p on
module _ (m d s : ℕ) (cs : List ℤ) {start step δ ε ζ η : ℤ} {p : ℕ}
    (es : start ≡ pos 10000 *ℤ (pos m *ℤ entry cs 0) +ℤ raise_of m s) (et : step ≡ pos 10000 *ℤ (entry cs d -ℤ entry cs 0))
    (eδ : δ ≡ difference cs 0) (eε : ε ≡ difference cs 1) (eζ : ζ ≡ difference cs 2) (eη : η ≡ difference cs 3) (ep : p ≡ row_place d 0) where
  pub higher_terms_are : {a b c e : ℕ} → a ≡ chosen δ p → b ≡ chosen ε (p + 27) → c ≡ chosen ζ (p + 54) → e ≡ chosen η (p + 81)
      → ◌≡◌ {A = HigherTerms} (record {
        degree = d;
        start = start;
        step = step;
        difference0 = δ;
        difference1 = ε;
        difference2 = ζ;
        difference3 = η;
        row0 = a;
        row1 = b;
        row2 = c;
        row3 = e;
      }) (higher_of m d s cs)
  unfolding higher_of
  higher_terms_are ea eb ec ee = λ j. record {
    degree = d;
    start = es j;
    step = et j;
    difference0 = eδ j;
    difference1 = eε j;
    difference2 = eζ j;
    difference3 = eη j;
    row0 = (ea ∙ ap₂ (λ x y. chosen x y) eδ ep) j;
    row1 = (eb ∙ ap₂ (λ x y. chosen x (y + 27)) eε ep) j;
    row2 = (ec ∙ ap₂ (λ x y. chosen x (y + 54)) eζ ep) j;
    row3 = (ee ∙ ap₂ (λ x y. chosen x (y + 81)) eη ep) j;
  }

-- the start as the code holds it
module _ {m s : ℕ} {cs : List ℤ} (most : m ≤ 8) (shallow : s ≤ 20) (h : Each (2 ^ 44) cs) where
  abbrev first_start : ℤ
  first_start = stored w64 (pos 10000 *ℤ stored w64 (to_z w64 m *ℤ stored w64 (entry cs 0)))

  pub start_fits : SFits w64 (first_start +ℤ shifted_raise most shallow)
  start_fits = fits! (held_add {x = first_start} (search (h, pieces most, bounded) depth 40) (held_raise most shallow)) tt

  pub start_is : stored w64 (first_start +ℤ shifted_raise most shallow) ≡ pos 10000 *ℤ (pos m *ℤ entry cs 0) +ℤ raise_of m s
  start_is = is! (held_stored w64 _ (held_add {x = first_start} (search (h, pieces most, bounded) depth 40) (held_raise most shallow))) tt

-- ---- sizes
pub place_under : (d : ℕ) → row_place d 0 ≤ 189
place_under d = cases (ltb 1 d) (ltb d 3) (ltb d 4) (ltb d 5)
  where
    cases : (a b c e : Bool) → cond a (cond b 54 (cond c 0 (cond e 108 189)) + 0) 81 ≤ 189
    cases true true c e = lit≤ tt
    cases true false true e = lit≤ tt
    cases true false false true = lit≤ tt
    cases true false false false = lit≤ tt
    cases false b c e = lit≤ tt

chosen_under : (δ : ℤ) {p n : ℕ} → p ≤ n → chosen δ p ≤ n + 1
chosen_under δ {p} {n} h = cases (lt_z δ (pos 0))
  where
    cases : (t : Bool) → cond t (p + 1) p ≤ n + 1
    cases true = omega arith
    cases false = omega arith

-- a coordinate's ends f and l are at most B in size
module _ {B : ℕ} (f l : ℤ) (hf : nat_abs f ≤ B) (hl : nat_abs l ≤ B) where
  abbrev first : Size f
  first = record { bound = B; under = hf }

  abbrev last : Size l
  last = record { bound = B; under = hl }

  abbrev count : (n : ℕ) → Size (pos n)
  count n = record { bound = n; under = le_refl n }

  start_size : (m : ℕ) → nat_abs (pos 10000 *ℤ (pos m *ℤ f)) ≤ 10000 * (m * B)
  start_size m = (size_mul (count 10000) (size_mul (count m) first)).under

  step_size : nat_abs (pos 10000 *ℤ (l -ℤ f)) ≤ 20000 * B
  step_size = le_trans (size_mul (count 10000) (size_add last (size_neg first))).under (omega arith)

  -- the chord's value is between its ends
  mixed_size : (n i : ℕ) → nat_abs (pos 10000 *ℤ (pos (n + i) *ℤ f) +ℤ pos i *ℤ (pos 10000 *ℤ (l -ℤ f))) ≤ 10000 * ((n + i) * B)
  mixed_size n i =
      let e : pos 10000 *ℤ (pos (n + i) *ℤ f) +ℤ pos i *ℤ (pos 10000 *ℤ (l -ℤ f)) ≡ pos 10000 *ℤ (pos n *ℤ f +ℤ pos i *ℤ l)
      = ring (pos n ∷ pos i ∷ f ∷ l ∷ []) (search sides depth 20) refl in
      le_trans (le_of_eq (ap nat_abs e)) (le_trans (size_mul (count 10000) (size_add (size_mul (count n) first) (size_mul (count i) last))).under
      (le_of_eq (ap (λ k. 10000 * k) (sym (add-mul n i B)))))

  chord_size : {m i : ℕ} → i ≤ m → nat_abs (pos 10000 *ℤ (pos m *ℤ f) +ℤ pos i *ℤ (pos 10000 *ℤ (l -ℤ f))) ≤ 10000 * (m * B)
  chord_size {m} {i} h = let e : m - i + i ≡ m = omega arith in
      subst (λ (k : ℕ). nat_abs (pos 10000 *ℤ (pos k *ℤ f) +ℤ pos i *ℤ (pos 10000 *ℤ (l -ℤ f))) ≤ 10000 * (k * B)) e (mixed_size (m - i) i)

pub terms_within : (m d s : ℕ) {cs : List ℤ} → d ≤ 3 → Each (2 ^ 20 * 2 ^ s) cs → TermsWithin m s (terms_of m d cs)
unfolding terms_of
terms_within m d s {cs} most h = record {
  start = start_size (entry cs 0) (entry cs d) (h.under 0) (h.under d) m;
  step = step_size (entry cs 0) (entry cs d) (h.under 0) (h.under d);
  chord = λ i hi. chord_size (entry cs 0) (entry cs d) (h.under 0) (h.under d) hi;
  difference0 = difference_under h 0;
  difference1 = difference_under h 1;
  row0 = chosen_under (difference cs 0) (low_place d 0 most (omega arith));
  row1 = chosen_under (difference cs 1) (low_place d 1 most (omega arith));
}

-- what was raised taken off again
module _ (x y R : ℤ) where
  start_off : x +ℤ R -ℤ R ≡ x
  start_off = ring (x ∷ R ∷ []) {a = x +ℤ R -ℤ R} (search sides depth 20) refl

  chord_off : x +ℤ R +ℤ y -ℤ R ≡ x +ℤ y
  chord_off = ring (x ∷ y ∷ R ∷ []) {a = x +ℤ R +ℤ y -ℤ R} (search sides depth 20) refl

pub higher_within : (m d s : ℕ) {cs : List ℤ} → Each (2 ^ 20 * 2 ^ s) cs → HigherWithin m s (higher_of m d s cs)
unfolding higher_of
higher_within m d s {cs} h =
    let first = entry cs 0 in
    let last = entry cs d in
    let R = raise_of m s in
    let S = pos 10000 *ℤ (pos m *ℤ first) in
    let place = place_under d in
    record {
      start = le_trans (le_of_eq (ap nat_abs (start_off S S R))) (start_size first last (h.under 0) (h.under d) m);
      step = step_size first last (h.under 0) (h.under d);
      chord = λ i hi. le_trans (le_of_eq (ap nat_abs (chord_off S (pos i *ℤ (pos 10000 *ℤ (last -ℤ first))) R)))
          (chord_size first last (h.under 0) (h.under d) hi);
      difference0 = difference_under h 0;
      difference1 = difference_under h 1;
      difference2 = difference_under h 2;
      difference3 = difference_under h 3;
      row0 = chosen_under (difference cs 0) {n = 270} (omega arith);
      row1 = chosen_under (difference cs 1) {n = 270} (omega arith);
      row2 = chosen_under (difference cs 2) {n = 270} (omega arith);
      row3 = chosen_under (difference cs 3) {n = 270} (omega arith);
    }

-- bounds can be computed: of degree d at depth k
pub computable : {m q d k c : ℕ} {rows cs : List ℤ} → HasRows m → m ≤ q → q ≤ 48 → Copied m rows → d ≤ 3 → k ≤ 8
    → Each (2 ^ 20 * 2 ^ (d * k)) cs → c * q ≡ 5040 → Computable m q (d * k) c rows (terms_of m d cs)
computable {m} {q} {d} {k} h less few rows most shallow each scaled = record {
  small = rows.small;
  whole = rows.whole;
  within = terms_within m d (d * k) most each;
  shallow = shift_small most shallow;
  scaled = scaled;
  most = h.most;
  less = less;
  few = few;
}

pub higher_computable : {m d k c : ℕ} {rows cs : List ℤ} → HasRows m → Copied m rows → 4 ≤ d → d ≤ 5 → k ≤ 4 → Each (2 ^ 20 * 2 ^ (d * k)) cs
    → c * m ≡ 5040 → HigherComputable m (d * k) c rows (higher_of m d (d * k) cs)
higher_computable {m} {d} {k} h rows least most shallow each scaled = record {
  each = rows.each;
  whole = rows.whole;
  within = higher_within m d (d * k) each;
  shallow = mul-le-mul most shallow;
  scaled = scaled;
  most = h.most;
}
