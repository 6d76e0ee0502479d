-- From the terms of a coordinate to its low and its high at a break point: what the functions hold is within its bounds.
use mathlib.Core.Path.{◌≡◌, refl, sym, ◌∙◌, ap, ap₂, subst}
use mathlib.Core.Bool.{Bool, true, false, cond}
use mathlib.Core.List.{List, [], ◌∷◌}
use Prim.Native.Nat.{ℕ, ◌+◌, ◌*◌, ◌%◌, ◌^◌, ◌≤◌, ◌<◌, zero-le}
use native.Mathlib.Nat.{le_trans, le_refl, le_of_eq, mul-le-mul, mul_assoc, mul-mul-mul_comm, mul_left_comm, add-le-add}
use native.Mathlib.Omega.{arith}
use lib.Dec.{T, ltb, lit≤}
use lib.Pow.{pow_mono, pow_pos}
use lib.IntN.{ℤ, pos, negsuc, nat_abs, ◌+ℤ◌, ◌-ℤ◌, ◌*ℤ◌, +ℤ_idr}
use borrow.Author.Tests.{lt-ltb, le-ltb}
use mir.Syntax.{w64}
use mir.Val.{SFits, to_z, of_z}
use mir.Facts.{to_z-of_z}
use Rattle.integers.specs.Entry.{entry}
use Rattle.integers.specs.Rounding.{floor, ceiling}
use Rattle.integers.proofs.Ring.{ring, sides}
use Rattle.integers.proofs.Order.{natural}
use Rattle.integers.proofs.Ranges.{stored}
use Rattle.integers.proofs.Size.{Size, size_add, size_mul, fits_size, abs_add}
use Rattle.integers.proofs.Machine.{Held, fits!, is!, held_pos, held_count, held_neg, held_add, held_mul, held_stored}
use Rattle.curve_halves.specs.Sizes.{Each}
use Rattle.bound_coordinate.specs.Inside.{Small, Computed}
use Rattle.bound_coordinate.specs.declared.terms.Terms.{Terms}
use Rattle.bound_coordinate.specs.declared.higher.HigherTerms.{HigherTerms}
use Rattle.bound_coordinate.specs.Terms.{Computable, ComputableAt, NumeratorAt, chord_at, pair_of, numerator_of, denominator_of, low_by, high_by}
use Rattle.bound_coordinate.specs.HigherTerms.{raise_of, HigherComputable, HigherComputableAt, higher_numerator, Raised, RoundedDown}
use Rattle.bound_coordinate.proofs.Coordinates.{pieces, divisors, bounded, held_left, computed_as, restored}
use Rattle.bound_coordinate.proofs.Quotients.{factor_some, denominator_positive, ceiling_raised}
use Rattle.bound_coordinate.proofs.Raised.{raised_of, raise_most}

-- ---- a number that 64 bits have room for is held as it is
kept : {B : ℕ} (z : ℤ) → nat_abs z ≤ B → T (ltb B (2 ^ 63)) → stored w64 z ≡ z
kept {B} z h t = to_z-of_z (fits_size {w = w64} {z = z} (record { bound = B; under = h }) t)

-- ---- a chord at its largest: of eight pieces, at depth 8 of degree 3
pub record Chord (i : ℕ) (a b : ℤ) : Type 0 where
  pub start : Small (10000 * 2 ^ 47) a
  pub step : Small (20000 * 2 ^ 44) b
  pub value : Small (10000 * 2 ^ 47) (chord_at a b i)
  pub point : i ≤ 8

values_most : {s : ℕ} → s ≤ 24 → 2 ^ 20 * 2 ^ s ≤ 2 ^ 44
values_most h = mul-le-mul (le_refl (2 ^ 20)) (pow_mono {j = 24} h)

chord_of : {m s i : ℕ} {a b : ℤ} → m ≤ 8 → s ≤ 24 → i ≤ m → nat_abs a ≤ 10000 * (m * (2 ^ 20 * 2 ^ s)) → nat_abs b ≤ 20000 * (2 ^ 20 * 2 ^ s)
    → nat_abs (chord_at a b i) ≤ 10000 * (m * (2 ^ 20 * 2 ^ s)) → Chord i a b
chord_of {m} {s} most shallow point start step value =
    let times : m * (2 ^ 20 * 2 ^ s) ≤ 2 ^ 47 = mul-le-mul most (values_most shallow) in
    record {
      start = record { size = le_trans start (mul-le-mul (le_refl 10000) times) };
      step = record { size = le_trans step (mul-le-mul (le_refl 20000) (values_most shallow)) };
      value = record { size = le_trans value (mul-le-mul (le_refl 10000) times) };
      point = le_trans point most;
    }

-- as the code holds it, and with a sum added: the chord has its own bound
module _ {i : ℕ} {a b : ℤ} (h : Chord i a b) where
  abbrev chord : ℤ
  chord = stored w64 (stored w64 a +ℤ stored w64 (to_z w64 i *ℤ stored w64 b))

  chord_is : chord ≡ chord_at a b i
  chord_is = is! (search (h.start, h.step, pieces h.point, bounded) depth 40) tt

  abbrev total : {sum : ℤ} → Held sum → Held (chord +ℤ sum)
  total {sum} = held_add {x = chord} {y = sum}
      (record { value = chord_at a b i; bound = 10000 * 2 ^ 47; test = true; is = λ u. chord_is; under = λ u. h.value.size })

-- ---- the terms at their largest: of degrees 1 to 3
pub record Most (i : ℕ) (rows : List ℤ) (t : Terms) : Type 0 where
  pub each : (p : ℕ) → p < 108 → Small 40000 (entry rows p)
  pub chord : Chord i t.start t.step
  pub difference0 : Small (2 ^ 46) t.difference0
  pub difference1 : Small (2 ^ 46) t.difference1

pub most_of : {i : ℕ} {rows : List ℤ} {t : Terms} → NumeratorAt i rows t → Most i rows t
most_of {i} n =
    let a = n.at in
    let h = a.computable in
    let w = h.within in
    let power = values_most h.shallow in
    record {
      each = λ p b. record { size = le_trans (h.small p b) (mul-le-mul (le_refl 5000) h.most) };
      chord = chord_of h.most h.shallow a.point w.start w.step (w.chord i a.point);
      difference0 = record { size = le_trans w.difference0 (mul-le-mul (le_refl 4) power) };
      difference1 = record { size = le_trans w.difference1 (mul-le-mul (le_refl 4) power) };
    }

-- the number that is divided, as the code holds it
module _ {i : ℕ} {rows : List ℤ} {t : Terms} (h : Most i rows t) (p q : ℕ) (hp : p < 108) (hq : q < 108) where
  abbrev sum : ℤ
  sum = stored w64
      (stored w64 (stored w64 (entry rows p) *ℤ stored w64 t.difference0) +ℤ stored w64 (stored w64 (entry rows q) *ℤ stored w64 t.difference1))

  pub total_fits : SFits w64 (chord h.chord +ℤ sum)
  total_fits = fits! (total h.chord (search (h.each p hp, h.each q hq, h.difference0, h.difference1, bounded) depth 40)) tt

  pub total_is : stored w64 (chord h.chord +ℤ sum) ≡ numerator_of rows t p q i
  total_is = is! (held_stored w64 (chord h.chord +ℤ sum)
      (total h.chord (search (h.each p hp, h.each q hq, h.difference0, h.difference1, bounded) depth 40))) tt

-- ---- of degrees 4 and 5, at depth 4: the start is raised
unraised : (x R : ℤ) → nat_abs x ≤ nat_abs (x -ℤ R) + nat_abs R
unraised x R = le_trans (le_of_eq (ap nat_abs (ring (x ∷ R ∷ []) {a = x} {b = x -ℤ R +ℤ R} (search sides depth 20) refl))) (abs_add (x -ℤ R) R)

pub record HigherMost (i : ℕ) (rows : List ℤ) (t : HigherTerms) : Type 0 where
  pub each : Each 72000 rows
  pub start : Small (2 ^ 61) t.start
  pub step : Small (20000 * 2 ^ 40) t.step
  pub point : i ≤ 8
  pub difference0 : Small (2 ^ 42) t.difference0
  pub difference1 : Small (2 ^ 42) t.difference1
  pub difference2 : Small (2 ^ 42) t.difference2
  pub difference3 : Small (2 ^ 42) t.difference3

pub higher_most_of : {i : ℕ} {rows : List ℤ} {t : HigherTerms} → HigherComputableAt i rows t → HigherMost i rows t
higher_most_of {t} a =
    let h = a.computable in
    let w = h.within in
    let power : 2 ^ 20 * 2 ^ a.s ≤ 2 ^ 40 = mul-le-mul (le_refl (2 ^ 20)) (pow_mono {j = 20} h.shallow) in
    let start : nat_abs (t.start -ℤ raise_of a.m a.s) ≤ 10000 * (8 * 2 ^ 40)
    = le_trans w.start (mul-le-mul (le_refl 10000) (mul-le-mul h.most power)) in
    record {
      each = record { under = λ p. le_trans (h.each.under p) (mul-le-mul (le_refl 9000) h.most) };
      start = record {
        size = le_trans (unraised t.start (raise_of a.m a.s))
            (le_trans (add-le-add start (raise_most h.most h.shallow)) (lit≤ tt));
      };
      step = record { size = le_trans w.step (mul-le-mul (le_refl 20000) power) };
      point = le_trans a.point h.most;
      difference0 = record { size = le_trans w.difference0 (mul-le-mul (le_refl 4) power) };
      difference1 = record { size = le_trans w.difference1 (mul-le-mul (le_refl 4) power) };
      difference2 = record { size = le_trans w.difference2 (mul-le-mul (le_refl 4) power) };
      difference3 = record { size = le_trans w.difference3 (mul-le-mul (le_refl 4) power) };
    }

-- the number that is divided, from the sum x of the first pair
module _ {i : ℕ} {rows : List ℤ} {t : HigherTerms} (h : HigherMost i rows t) (at : ℕ) {x : ℤ}
    (hx : Computed (144000 * 2 ^ 42) (pair_of rows (t.row0 + at) (t.row1 + at) (stored w64 t.difference0) (stored w64 t.difference1)) x) where
  abbrev line : ℤ
  line = stored w64 (stored w64 t.start +ℤ stored w64 (to_z w64 i *ℤ stored w64 t.step))

  abbrev third : ℤ
  third = stored w64 (stored w64 (entry rows (t.row2 + at)) *ℤ stored w64 t.difference2)

  abbrev fourth : ℤ
  fourth = stored w64 (stored w64 (entry rows (t.row3 + at)) *ℤ stored w64 t.difference3)

  pub three_fit : SFits w64 (stored w64 x +ℤ third)
  three_fit = fits! (search (h.each, h.difference2, hx, bounded) depth 40) tt

  pub four_fit : SFits w64 (stored w64 (stored w64 x +ℤ third) +ℤ fourth)
  four_fit = fits! (search (h.each, h.difference2, h.difference3, hx, bounded) depth 40) tt

  pub three_total_fits : SFits w64 (line +ℤ stored w64 (stored w64 x +ℤ third))
  three_total_fits = fits! (search (h.start, h.step, pieces h.point, h.each, h.difference2, hx, bounded) depth 40) tt

  pub four_total_fits : SFits w64 (line +ℤ stored w64 (stored w64 (stored w64 x +ℤ third) +ℤ fourth))
  four_total_fits = fits! (search (h.start, h.step, pieces h.point, h.each, h.difference2, h.difference3, hx, bounded) depth 40) tt

  -- the differences are held as they are
  abbrev pair : ℤ
  pair = pair_of rows (t.row0 + at) (t.row1 + at) t.difference0 t.difference1

  pair_kept : pair_of rows (t.row0 + at) (t.row1 + at) (stored w64 t.difference0) (stored w64 t.difference1) ≡ pair
  pair_kept = ap₂ (λ y z. pair_of rows (t.row0 + at) (t.row1 + at) y z)
      (kept t.difference0 h.difference0.size tt) (kept t.difference1 h.difference1.size tt)

  -- the sum of the products, the fourth at degree 5 alone
  abbrev summed : Bool → ℤ → ℤ
  summed b z = chord_at t.start t.step i
      +ℤ (z +ℤ entry rows (t.row2 + at) *ℤ t.difference2 +ℤ cond b (pos 0) (entry rows (t.row3 + at) *ℤ t.difference3))

  pub three_total_is : t.degree < 5 → stored w64 (line +ℤ stored w64 (stored w64 x +ℤ third)) ≡ higher_numerator rows t at i
  three_total_is l =
      is! (search (h.start, h.step, pieces h.point, h.each, h.difference2, hx, bounded) depth 40) tt
      ∙ ap (λ z. chord_at t.start t.step i +ℤ z) (sym (+ℤ_idr _))
      ∙ ap₂ summed (sym (lt-ltb t.degree 5 l)) pair_kept

  pub four_total_is : 5 ≤ t.degree
      → stored w64 (line +ℤ stored w64 (stored w64 (stored w64 x +ℤ third) +ℤ fourth)) ≡ higher_numerator rows t at i
  four_total_is l =
      is! (search (h.start, h.step, pieces h.point, h.each, h.difference2, h.difference3, hx, bounded) depth 40) tt
      ∙ ap₂ summed (sym (le-ltb t.degree 5 l)) pair_kept

-- ---- a number that is divided by 625 d 2^s: how large it is at degrees 1 to 3
pub record Dividend (d s c : ℕ) (N : ℤ) : Type 0 where
  pub size : nat_abs N ≤ 50000 * 2 ^ 20 * (d * 2 ^ s)
  pub fits : nat_abs N ≤ 50000 * (8 * 2 ^ 44)
  pub shallow : s ≤ 24
  pub scaled : c * d ≡ 5040
  pub most : d ≤ 48

dividend : {d s c i : ℕ} (rows : List ℤ) {t : Terms} (p q : ℕ) → ComputableAt d s c i rows t → p < 108 → q < 108
    → Dividend d s c (numerator_of rows t p q i)
dividend {d} {s} {c} {i} rows {t} p q at hp hq = record {
  size = le_trans scaled (omega (arith, mul_left_comm m (2 ^ 20) (2 ^ s), mul-le-mul h.less (le_refl (2 ^ s))));
  fits = le_trans scaled
      (mul-le-mul (le_refl 50000) (mul-le-mul h.most (mul-le-mul (le_refl (2 ^ 20)) (pow_mono {j = 24} h.shallow))));
  shallow = h.shallow;
  scaled = h.scaled;
  most = h.few;
}
  where
    m : ℕ
    m = at.m

    h : Computable at.m d s c rows t
    h = at.computable

    hi : i ≤ at.m
    hi = at.point

    B : ℕ
    B = 2 ^ 20 * 2 ^ s

    scaled : nat_abs (numerator_of rows t p q i) ≤ 50000 * (m * B)
    scaled =
        let w = h.within in
        let a : Size (entry rows p) = record { bound = 5000 * m; under = h.small p hp } in
        let b : Size (entry rows q) = record { bound = 5000 * m; under = h.small q hq } in
        let x : Size t.difference0 = record { bound = 4 * B; under = w.difference0 } in
        let y : Size t.difference1 = record { bound = 4 * B; under = w.difference1 } in
        let z : Size (chord_at t.start t.step i) = record { bound = 10000 * (m * B); under = w.chord i hi } in
        le_trans (size_add z (size_add (size_mul a x) (size_mul b y))).under (omega (arith, mul-mul-mul_comm 5000 m 4 B))

-- ---- and of degrees 4 and 5, without what it was raised by
pub record HigherDividend (m s c : ℕ) (n : ℤ) : Type 0 where
  pub size : nat_abs (n -ℤ raise_of m s) ≤ 154000 * 2 ^ 20 * (m * 2 ^ s)
  pub shallow : s ≤ 20
  pub scaled : c * m ≡ 5040
  pub most : m ≤ 8

either_size : (b : Bool) {x : ℤ} (s : Size x) → nat_abs (cond b (pos 0) x) ≤ s.bound
either_size true s = zero-le
either_size false s = s.under

pub higher_dividend : {m s c i : ℕ} (rows : List ℤ) {t : HigherTerms} (at : ℕ) → HigherComputable m s c rows t → i ≤ m
    → HigherDividend m s c (higher_numerator rows t at i)
higher_dividend {m} {s} {c} {i} rows {t} at h hi = record {
  size = le_trans scaled (omega (arith, mul_left_comm m (2 ^ 20) (2 ^ s)));
  shallow = h.shallow;
  scaled = h.scaled;
  most = h.most;
}
  where
    B : ℕ
    B = 2 ^ 20 * 2 ^ s

    regrouped : (x y R : ℤ) → x +ℤ y -ℤ R ≡ x -ℤ R +ℤ y
    regrouped x y R = ring (x ∷ y ∷ R ∷ []) (search sides depth 20) refl

    product : (p : ℕ) (δ : ℤ) → nat_abs δ ≤ 4 * B → Size (entry rows p *ℤ δ)
    product p δ l = record {
      bound = 9000 * m * (4 * B);
      under = (size_mul {x = entry rows p} {y = δ} (record { bound = 9000 * m; under = h.each.under p }) (record { bound = 4 * B; under = l })).under;
    }

    scaled : nat_abs (higher_numerator rows t at i -ℤ raise_of m s) ≤ 154000 * (m * B)
    scaled =
        let w = h.within in
        let x = product (t.row0 + at) t.difference0 w.difference0 in
        let y = product (t.row1 + at) t.difference1 w.difference1 in
        let z = product (t.row2 + at) t.difference2 w.difference2 in
        let u = product (t.row3 + at) t.difference3 w.difference3 in
        let f : Size (cond (ltb t.degree 5) (pos 0) (entry rows (t.row3 + at) *ℤ t.difference3))
        = record { bound = u.bound; under = either_size (ltb t.degree 5) u } in
        let v : Size (chord_at t.start t.step i -ℤ raise_of m s) = record { bound = 10000 * (m * B); under = w.chord i hi } in
        le_trans (le_of_eq (ap nat_abs (regrouped (chord_at t.start t.step i) _ (raise_of m s))))
        (le_trans (size_add v (size_add (size_add (size_add x y) z) f)).under (omega (arith, mul-mul-mul_comm 9000 m 4 B)))

-- ---- one less than the divisor, which is added for a high
abbrev shifted_divisor : (m s : ℕ) → ℤ
shifted_divisor m s = to_z w64 (of_z w64 (pos 625 *ℤ to_z w64 m) * 2 ^ s % 2 ^ 64)

module _ {m s : ℕ} (most : m ≤ 48) (shallow : s ≤ 24) where
  abbrev less : Held (shifted_divisor m s -ℤ pos 1)
  less = held_add
      (held_left shallow (held_mul {x = pos 625} {y = to_z w64 m} (held_pos refl) (held_count w64 m (divisors most))) (natural (625 * m)))
      (held_neg (held_pos {n = 1} refl))

  pub less_fits : SFits w64 (shifted_divisor m s -ℤ pos 1)
  less_fits = fits! less tt

-- ---- what the code divides
module _ {m s c : ℕ} {N : ℤ} (h : Dividend m s c N) {r : ℤ} (e : r ≡ N) where
  abbrev divided : Held (stored w64 r)
  divided = record {
    value = N;
    bound = 50000 * (8 * 2 ^ 44);
    test = true;
    is = λ u. ap (stored w64) e ∙ kept N h.fits tt;
    under = λ u. h.fits;
  }

  low_size : nat_abs (stored w64 r) ≤ 625 * 2 ^ 28 * (m * 2 ^ s)
  low_size = rw (divided.is tt) (le_trans h.size (omega arith))

  low_computed : {b : ℤ} → Computed (2 ^ 28) (floor (stored w64 r) (denominator_of m s)) b
      → Computed (2 ^ 28) (floor N (denominator_of m s)) (stored w64 b)
  low_computed k = restored (computed_as (ap (λ z. floor z (denominator_of m s)) (divided.is tt)) k) tt

  -- ---- and for the high, raised by one less than the divisor
  abbrev D : ℤ
  D = denominator_of m s

  abbrev raised : Held (stored w64 r +ℤ stored w64 (shifted_divisor m s -ℤ pos 1))
  raised = held_add divided (held_stored w64 (shifted_divisor m s -ℤ pos 1) (less h.most h.shallow))

  raised_fits : SFits w64 (stored w64 r +ℤ stored w64 (shifted_divisor m s -ℤ pos 1))
  raised_fits = fits! raised tt

  abbrev S : ℤ
  S = stored w64 (stored w64 r +ℤ stored w64 (shifted_divisor m s -ℤ pos 1))

  raised_is : S ≡ N +ℤ (D -ℤ pos 1)
  raised_is = is! (held_stored w64 _ raised) tt

  high_size : nat_abs S ≤ 625 * 2 ^ 28 * (m * 2 ^ s)
  high_size = rw raised_is (le_trans (abs_add N (D -ℤ pos 1)) (le_trans (add-le-add h.size (abs_add D (negsuc 0)))
      (omega (arith, mul-le-mul (factor_some c m h.scaled) (pow_pos s)))))

  high_computed : {b : ℤ} → Computed (2 ^ 28) (floor S D) b → Computed (2 ^ 28) (ceiling N D) (stored w64 b)
  high_computed k = restored (computed_as (ap (λ z. floor z D) raised_is
      ∙ ceiling_raised N (denominator_positive (factor_some c m h.scaled) s)) k) tt

-- ---- the low and the high at break point i, from the number that is divided
module _ {d s c i : ℕ} {rows : List ℤ} {t : Terms} (at : ComputableAt d s c i rows t) where
  low_dividend : Dividend d s c (numerator_of rows t (t.row0 + (3 * i + 1)) (t.row1 + (3 * i + 1)) i)
  low_dividend = dividend rows (t.row0 + (3 * i + 1)) (t.row1 + (3 * i + 1)) at (omega arith) (omega arith)

  high_dividend : Dividend d s c (numerator_of rows t (t.row0 + 3 * i) (t.row1 + 3 * i) i)
  high_dividend = dividend rows (t.row0 + 3 * i) (t.row1 + 3 * i) at (omega arith) (omega arith)

  -- what rounding down asks
  abbrev Asked : ℤ → Type 0
  Asked z = (nat_abs z ≤ 625 * 2 ^ 28 * (d * 2 ^ s)) × (s ≤ 24) × (c * d ≡ 5040) × (d ≤ 48)

  pub low_asked : {r : ℤ} → r ≡ numerator_of rows t (t.row0 + (3 * i + 1)) (t.row1 + (3 * i + 1)) i → Asked (stored w64 r)
  low_asked e = let h = low_dividend in (low_size h e, h.shallow, h.scaled, h.most)

  pub low_by_law : {r b : ℤ} → r ≡ numerator_of rows t (t.row0 + (3 * i + 1)) (t.row1 + (3 * i + 1)) i
      → Computed (2 ^ 28) (floor (stored w64 r) (denominator_of d s)) b → Computed (2 ^ 28) (low_by d s rows t i) (stored w64 b)
  unfolding low_by
  low_by_law e = low_computed low_dividend e

  module _ {r : ℤ} (e : r ≡ numerator_of rows t (t.row0 + 3 * i) (t.row1 + 3 * i) i) where
    pub high_fits : SFits w64 (stored w64 r +ℤ stored w64 (shifted_divisor d s -ℤ pos 1))
    high_fits = raised_fits high_dividend e

    pub high_asked : Asked (stored w64 (stored w64 r +ℤ stored w64 (shifted_divisor d s -ℤ pos 1)))
    high_asked = let h = high_dividend in (high_size h e, h.shallow, h.scaled, h.most)

    pub high_by_law : {b : ℤ}
        → Computed (2 ^ 28) (floor (stored w64 (stored w64 r +ℤ stored w64 (shifted_divisor d s -ℤ pos 1))) (denominator_of d s)) b
        → Computed (2 ^ 28) (high_by d s rows t i) (stored w64 b)
    unfolding high_by
    high_by_law k = high_computed high_dividend e k

-- ---- and at degrees 4 and 5
module _ {m s c : ℕ} {n : ℤ} (h : HigherDividend m s c n) {r : ℤ} (e : r ≡ n) where
  abbrev divisor : ℤ
  divisor = denominator_of m s

  fits : nat_abs n ≤ 2 ^ 62
  fits = le_trans (unraised n (raise_of m s))
      (le_trans (add-le-add (le_trans h.size (mul-le-mul (le_refl (154000 * 2 ^ 20)) (mul-le-mul h.most (pow_mono {j = 20} h.shallow))))
      (raise_most h.most h.shallow)) (lit≤ tt))

  abbrev higher_divided : Held (stored w64 r)
  higher_divided = record { value = n; bound = 2 ^ 62; test = true; is = λ u. ap (stored w64) e ∙ kept n fits tt; under = λ u. fits }

  pub higher_low_raised : Raised s c (stored w64 r)
  higher_low_raised = subst (Raised s c) (sym (higher_divided.is tt))
      (raised_of m (le_trans h.size (omega (arith, mul_assoc 625 m (2 ^ s)))) h.shallow h.scaled)

  pub higher_low_computed : {b : ℤ} → RoundedDown s c (stored w64 r) b → Computed (2 ^ 28) (floor n divisor -ℤ pos (2 ^ 28)) (stored w64 b)
  higher_low_computed k = restored (computed_as (ap (λ z. floor z divisor -ℤ pos (2 ^ 28)) (higher_divided.is tt)) (k.of m h.scaled)) tt

  -- ---- and for the high, raised by one less than the divisor
  abbrev higher_raised : Held (stored w64 r +ℤ stored w64 (shifted_divisor m s -ℤ pos 1))
  higher_raised = held_add higher_divided
      (held_stored w64 (shifted_divisor m s -ℤ pos 1) (less (le_trans h.most (omega arith)) (le_trans h.shallow (omega arith))))

  pub higher_raised_fits : SFits w64 (stored w64 r +ℤ stored w64 (shifted_divisor m s -ℤ pos 1))
  higher_raised_fits = fits! higher_raised tt

  abbrev added : ℤ
  added = stored w64 (stored w64 r +ℤ stored w64 (shifted_divisor m s -ℤ pos 1))

  higher_raised_is : added ≡ n +ℤ (divisor -ℤ pos 1)
  higher_raised_is = is! (held_stored w64 _ higher_raised) tt

  more_size : nat_abs (n +ℤ (divisor -ℤ pos 1) -ℤ raise_of m s) ≤ 2 ^ 28 * (625 * m * 2 ^ s)
  more_size =
      let R = raise_of m s in
      let q : n +ℤ (divisor -ℤ pos 1) -ℤ R ≡ n -ℤ R +ℤ (divisor -ℤ pos 1) = ring (n ∷ divisor ∷ R ∷ []) (search sides depth 20) refl in
      le_trans (le_of_eq (ap nat_abs q)) (le_trans (abs_add (n -ℤ R) (divisor -ℤ pos 1)) (le_trans (add-le-add h.size (abs_add divisor (negsuc 0)))
      (omega (arith, mul_assoc 625 m (2 ^ s), mul-le-mul (factor_some c m h.scaled) (pow_pos s)))))

  pub higher_high_raised : Raised s c added
  higher_high_raised = subst (Raised s c) (sym higher_raised_is) (raised_of m more_size h.shallow h.scaled)

  pub higher_high_computed : {b : ℤ} → RoundedDown s c added b → Computed (2 ^ 28) (ceiling n divisor -ℤ pos (2 ^ 28)) (stored w64 b)
  higher_high_computed k = restored (computed_as (ap (λ z. floor z divisor -ℤ pos (2 ^ 28)) higher_raised_is
      ∙ ap (λ z. z -ℤ pos (2 ^ 28)) (ceiling_raised n (denominator_positive (factor_some c m h.scaled) s))) (k.of m h.scaled)) tt
