-- The laws of `floor` and `ceiling` by a positive divisor, and how code that divides towards zero comes to them.
use mathlib.Core.Path.{◌≡◌, refl, sym, ◌∙◌, ap, subst}
use mathlib.Core.Bool.{Bool, true, false}
use mathlib.Core.Logic.{⊎_elim}
use mathlib.Core.List.{[], ◌∷◌}
use Prim.Native.Nat.{ℕ, zero, suc, ◌/◌, ◌%◌, ◌≤◌, ◌<◌, zero-le, suc-le-suc}
use native.Mathlib.Nat.{div-add-mod', mod-lt, div-le_self, lt_of_le_of_lt, le_of_suc-le-suc, le_trans}
use lib.Dec.{ltb→lt}
use lib.IntN.{ℤ, pos, negsuc, neg_ℤ, ◌+ℤ◌, ◌-ℤ◌, ◌*ℤ◌, neg_ℤ-neg_ℤ, nat_abs}
use lib.Signed.{mag, mag_rem, quot_z, rem_z, shr_z, lt_z, ◌≤ℤ◌, ◌<ℤ◌}
use mir.Syntax.{Width}
use mir.Val.{SFits, of_z}
use mir.Facts.{to_z-of_z}
use Rattle.integers.specs.Rounding.{floor, ceiling}
use Rattle.integers.proofs.Ring.{ring, sides}
use Rattle.integers.proofs.Order.{NonNeg, natural, nonneg_by, gap, gap<, le_by, lt_by, clash_by, pos_lt, le_or_lt, ≤ℤ_antisymm}
use Rattle.integers.proofs.Order.{*ℤ_cancel, times_positive, ◌+₀◌, ◌×₀◌}
use Rattle.integers.proofs.Size.{abs_within}
use Rattle.integers.proofs.Ranges.{stored, lt_yes, lt_no}

-- q is n / d rounded down, and up
pub record Floor (n d q : ℤ) : Type 0 where
  pub below : (q *ℤ d) ≤ℤ n
  pub above : n <ℤ ((q +ℤ pos 1) *ℤ d)

pub record Ceiling (n d q : ℤ) : Type 0 where
  pub below : ((q -ℤ pos 1) *ℤ d) <ℤ n
  pub above : n ≤ℤ (q *ℤ d)

-- ---- both inequalities
negsuc_is : (k : ℕ) → negsuc k ≡ neg_ℤ (pos k) -ℤ pos 1
negsuc_is zero = refl
negsuc_is (suc k) = sym (ring (pos k ∷ []) {b = neg_ℤ (pos (suc (suc k)))} (search sides depth 20) refl)

module _ (a D : ℕ) (h : zero < D) where
  whole : pos a ≡ pos (a / D) *ℤ pos D +ℤ pos (a % D)
  whole = ap pos (sym (div-add-mod' a D))

  left_over : NonNeg (pos D -ℤ pos (a % D) -ℤ pos 1)
  left_over = gap< (pos_lt (mod-lt a h))

  floor_pos : Floor (pos a) (pos D) (pos (a / D))
  floor_pos = subst (λ n. Floor n (pos D) (pos (a / D))) (sym whole) (record {
    below = le_by (pos (a / D) ∷ pos D ∷ pos (a % D) ∷ []) (natural (a % D)) (search sides depth 20) refl;
    above = lt_by (pos (a / D) ∷ pos D ∷ pos (a % D) ∷ []) left_over (search sides depth 20) refl;
  })

  floor_negsuc : Floor (negsuc a) (pos D) (negsuc (a / D))
  floor_negsuc = subst (λ n. Floor n (pos D) (negsuc (a / D))) (sym (negsuc_is a ∙ ap (λ z. neg_ℤ z -ℤ pos 1) whole))
      (subst (λ q. Floor (neg_ℤ (pos (a / D) *ℤ pos D +ℤ pos (a % D)) -ℤ pos 1) (pos D) q) (sym (negsuc_is (a / D))) (record {
        below = le_by (pos (a / D) ∷ pos D ∷ pos (a % D) ∷ []) left_over (search sides depth 20) refl;
        above = lt_by (pos (a / D) ∷ pos D ∷ pos (a % D) ∷ []) (natural (a % D)) (search sides depth 20) refl;
      }))

pub floor_is : (n d : ℤ) → pos 0 <ℤ d → Floor n d (floor n d)
unfolding floor
floor_is (pos a) (pos D) h = floor_pos a D (ltb→lt zero D h.lt)
floor_is (negsuc a) (pos D) h = floor_negsuc a D (ltb→lt zero D h.lt)
floor_is (pos a) (negsuc D) h = absurd h.lt
floor_is (negsuc a) (negsuc D) h = absurd h.lt

-- what holds of the floor of −n holds of the ceiling of n
turned : {n d q : ℤ} → Floor (neg_ℤ n) d q → Ceiling n d (neg_ℤ q)
turned {n} {d} {q} f = record {
  below = lt_by (n ∷ d ∷ q ∷ []) (gap< f.above) (search sides depth 20) refl;
  above = le_by (n ∷ d ∷ q ∷ []) (gap f.below) (search sides depth 20) refl;
}

pub ceiling_is : (n d : ℤ) → pos 0 <ℤ d → Ceiling n d (ceiling n d)
unfolding ceiling
ceiling_is n d h = turned (floor_is (neg_ℤ n) d h)

-- floor(−n) = −ceiling(n), and ceiling(−n) = −floor(n)
pub floor_neg : (n d : ℤ) → floor (neg_ℤ n) d ≡ neg_ℤ (ceiling n d)
unfolding ceiling
floor_neg n d = sym (neg_ℤ-neg_ℤ (floor (neg_ℤ n) d))

-- ---- the greatest whole number k with k · d ≤ n, and the least with n ≤ k · d
module _ {n d : ℤ} (hd : pos 0 <ℤ d) where
  le_Floor : {q k : ℤ} → Floor n d q → (k *ℤ d) ≤ℤ n → k ≤ℤ q
  le_Floor {q} {k} f h = ⊎_elim (λ l. l) (λ l. absurd (clash_by (n ∷ d ∷ q ∷ k ∷ [])
      (gap< f.above +₀ gap h +₀ (gap< hd +₀ natural 1) ×₀ gap< l) (search sides depth 20) refl)) (le_or_lt k q)

  Ceiling_le : {q k : ℤ} → Ceiling n d q → n ≤ℤ (k *ℤ d) → q ≤ℤ k
  Ceiling_le {q} {k} f h = ⊎_elim (λ l. l) (λ l. absurd (clash_by (n ∷ d ∷ q ∷ k ∷ [])
      (gap< f.below +₀ gap h +₀ (gap< hd +₀ natural 1) ×₀ gap< l) (search sides depth 20) refl)) (le_or_lt q k)

  pub le_floor : {k : ℤ} → (k *ℤ d) ≤ℤ n → k ≤ℤ floor n d
  le_floor = le_Floor (floor_is n d hd)

  pub ceiling_le : {k : ℤ} → n ≤ℤ (k *ℤ d) → ceiling n d ≤ℤ k
  ceiling_le = Ceiling_le (ceiling_is n d hd)

  pub floor_unique : {q : ℤ} → Floor n d q → q ≡ floor n d
  floor_unique f = ≤ℤ_antisymm (le_floor f.below) (le_Floor f (floor_is n d hd).below)

  pub ceiling_unique : {q : ℤ} → Ceiling n d q → q ≡ ceiling n d
  ceiling_unique f = ≤ℤ_antisymm (Ceiling_le f (ceiling_is n d hd).above) (ceiling_le f.above)

-- ---- a common positive factor cancels
module _ {d : ℤ} (hd : pos 0 <ℤ d) where
  module _ {k : ℤ} (hk : pos 0 <ℤ k) (n : ℤ) where
    scaled_positive : pos 0 <ℤ (k *ℤ d)
    scaled_positive = lt_by (k ∷ d ∷ []) ((gap< hk +₀ natural 1) ×₀ gap< hd +₀ gap< hk) (search sides depth 20) refl

    pub floor_scale : floor (k *ℤ n) (k *ℤ d) ≡ floor n d
    floor_scale =
        let q = floor n d in
        let f = floor_is n d hd in
        sym (floor_unique scaled_positive (record {
          below = le_by (k ∷ d ∷ n ∷ q ∷ []) ((gap< hk +₀ natural 1) ×₀ gap f.below) (search sides depth 20) refl;
          above = lt_by (k ∷ d ∷ n ∷ q ∷ []) ((gap< hk +₀ natural 1) ×₀ gap< f.above +₀ gap< hk) (search sides depth 20) refl;
        }))

    pub ceiling_scale : ceiling (k *ℤ n) (k *ℤ d) ≡ ceiling n d
    ceiling_scale =
        let q = ceiling n d in
        let f = ceiling_is n d hd in
        sym (ceiling_unique scaled_positive (record {
          below = lt_by (k ∷ d ∷ n ∷ q ∷ []) ((gap< hk +₀ natural 1) ×₀ gap< f.below +₀ gap< hk) (search sides depth 20) refl;
          above = le_by (k ∷ d ∷ n ∷ q ∷ []) ((gap< hk +₀ natural 1) ×₀ gap f.above) (search sides depth 20) refl;
        }))

  -- whole multiples of d can be divided apart; where the sum is not negative, the machine's quotient does it
  pub floor_raised : (k n : ℤ) → floor (k *ℤ d +ℤ n) d ≡ k +ℤ floor n d
  floor_raised k n =
      let q = floor n d in
      let f = floor_is n d hd in
      sym (floor_unique hd (record {
        below = le_by (k ∷ d ∷ n ∷ q ∷ []) (gap f.below) (search sides depth 20) refl;
        above = lt_by (k ∷ d ∷ n ∷ q ∷ []) (gap< f.above) (search sides depth 20) refl;
      }))

-- ---- a division in two steps, and a shift to the right by a power of 2, which divides by it
pub floor_floor : {d e : ℤ} → pos 0 <ℤ d → pos 0 <ℤ e → (n : ℤ) → floor (floor n d) e ≡ floor n (e *ℤ d)
floor_floor {d} {e} hd he n =
    let q = floor n d in
    let r = floor q e in
    let f = floor_is n d hd in
    let g = floor_is q e he in
    floor_unique (times_positive he hd) (record {
      below = le_by (d ∷ e ∷ n ∷ q ∷ r ∷ []) (gap f.below +₀ (gap< hd +₀ natural 1) ×₀ gap g.below) (search sides depth 20) refl;
      above = lt_by (d ∷ e ∷ n ∷ q ∷ r ∷ []) (gap< f.above +₀ (gap< hd +₀ natural 1) ×₀ gap< g.above) (search sides depth 20) refl;
    })

pub shift_floor : (n : ℤ) (k : ℕ) → shr_z n k ≡ floor n (pos k)
unfolding floor
shift_floor (pos a) k = refl
shift_floor (negsuc a) k = refl

-- at most B in size where n is at most B · d
pub floor_size : (B : ℕ) {n d : ℤ} → pos 0 <ℤ d → n ≤ℤ (pos B *ℤ d) → (neg_ℤ (pos B) *ℤ d) ≤ℤ n → nat_abs (floor n d) ≤ B
floor_size B {n} {d} hd h l = abs_within B (floor n d) (le_floor hd l)
    (*ℤ_cancel {a = floor n d} {b = pos B} hd
    (le_by (pos B ∷ n ∷ d ∷ floor n d ∷ []) (gap h +₀ gap (floor_is n d hd).below) (search sides depth 20) refl))

-- ---- as code computes them: `if n % d < 0 { n / d - 1 } else { n / d }`, and `if 0 < n % d { n / d + 1 } else { n / d }`
quotient_remainder : (n : ℤ) (D : ℕ) → n ≡ quot_z n (pos D) *ℤ pos D +ℤ rem_z n (pos D)
quotient_remainder (pos a) D = ap pos (sym (div-add-mod' a D))
quotient_remainder (negsuc a) D =
    ap neg_ℤ (ap pos (sym (div-add-mod' (suc a) D)))
    ∙ ring (pos (suc a / D) ∷ pos D ∷ pos (suc a % D) ∷ []) {a = neg_ℤ (pos (suc a / D) *ℤ pos D +ℤ pos (suc a % D))} (search sides depth 20) refl

remainder_low : (n : ℤ) (D : ℕ) → zero < D → NonNeg (rem_z n (pos D) +ℤ pos D -ℤ pos 1)
remainder_low (pos a) D h = nonneg_by (pos D ∷ pos (a % D) ∷ []) (left_over a D h +₀ natural 2 ×₀ natural (a % D)) (search sides depth 20) refl
remainder_low (negsuc a) D h = nonneg_by (pos D ∷ pos (suc a % D) ∷ []) (left_over (suc a) D h) (search sides depth 20) refl

remainder_high : (n : ℤ) (D : ℕ) → zero < D → NonNeg (pos D -ℤ rem_z n (pos D) -ℤ pos 1)
remainder_high (pos a) D h = left_over a D h
remainder_high (negsuc a) D h = nonneg_by (pos D ∷ pos (suc a % D) ∷ [])
    (left_over (suc a) D h +₀ natural 2 ×₀ natural (suc a % D)) (search sides depth 20) refl

-- n = q · d + s, and s is less than d from zero
module _ {n d : ℤ} (hd : pos 0 <ℤ d) (q s : ℤ) (e : n ≡ q *ℤ d +ℤ s) (l : NonNeg (s +ℤ d -ℤ pos 1)) (h : NonNeg (d -ℤ s -ℤ pos 1)) where
  down_one : s <ℤ pos 0 → Floor n d (q -ℤ pos 1)
  down_one t = subst (λ x. Floor x d (q -ℤ pos 1)) (sym e) (record {
    below = le_by (q ∷ d ∷ s ∷ []) (l +₀ natural 1) (search sides depth 20) refl;
    above = lt_by (q ∷ d ∷ s ∷ []) (gap< t) (search sides depth 20) refl;
  })

  down_none : pos 0 ≤ℤ s → Floor n d q
  down_none t = subst (λ x. Floor x d q) (sym e) (record {
    below = le_by (q ∷ d ∷ s ∷ []) (gap t) (search sides depth 20) refl;
    above = lt_by (q ∷ d ∷ s ∷ []) h (search sides depth 20) refl;
  })

  up_one : pos 0 <ℤ s → Ceiling n d (q +ℤ pos 1)
  up_one t = subst (λ x. Ceiling x d (q +ℤ pos 1)) (sym e) (record {
    below = lt_by (q ∷ d ∷ s ∷ []) (gap< t) (search sides depth 20) refl;
    above = le_by (q ∷ d ∷ s ∷ []) (h +₀ natural 1) (search sides depth 20) refl;
  })

  up_none : s ≤ℤ pos 0 → Ceiling n d q
  up_none t = subst (λ x. Ceiling x d q) (sym e) (record {
    below = lt_by (q ∷ d ∷ s ∷ []) l (search sides depth 20) refl;
    above = le_by (q ∷ d ∷ s ∷ []) (gap t) (search sides depth 20) refl;
  })

module _ (n : ℤ) where
  pub floor_then : (d : ℤ) → pos 0 <ℤ d → lt_z (rem_z n d) (pos 0) ≡ true → quot_z n d -ℤ pos 1 ≡ floor n d
  floor_then (pos D) h t = let k = ltb→lt zero D h.lt in
      floor_unique h (down_one h (quot_z n (pos D)) (rem_z n (pos D)) (quotient_remainder n D) (remainder_low n D k) (remainder_high n D k) (lt_yes t))
  floor_then (negsuc D) h t = absurd h.lt

  pub floor_else : (d : ℤ) → pos 0 <ℤ d → lt_z (rem_z n d) (pos 0) ≡ false → quot_z n d ≡ floor n d
  floor_else (pos D) h t = let k = ltb→lt zero D h.lt in
      floor_unique h (down_none h (quot_z n (pos D)) (rem_z n (pos D)) (quotient_remainder n D) (remainder_low n D k) (remainder_high n D k) (lt_no t))
  floor_else (negsuc D) h t = absurd h.lt

  pub ceiling_then : (d : ℤ) → pos 0 <ℤ d → lt_z (pos 0) (rem_z n d) ≡ true → quot_z n d +ℤ pos 1 ≡ ceiling n d
  ceiling_then (pos D) h t = let k = ltb→lt zero D h.lt in
      ceiling_unique h (up_one h (quot_z n (pos D)) (rem_z n (pos D)) (quotient_remainder n D) (remainder_low n D k) (remainder_high n D k) (lt_yes t))
  ceiling_then (negsuc D) h t = absurd h.lt

  pub ceiling_else : (d : ℤ) → pos 0 <ℤ d → lt_z (pos 0) (rem_z n d) ≡ false → quot_z n d ≡ ceiling n d
  ceiling_else (pos D) h t = let k = ltb→lt zero D h.lt in
      ceiling_unique h (up_none h (quot_z n (pos D)) (rem_z n (pos D)) (quotient_remainder n D) (remainder_low n D k) (remainder_high n D k) (lt_no t))
  ceiling_else (negsuc D) h t = absurd h.lt

-- ---- a rounded quotient, and the machine's quotient and remainder, fit where the dividend does
negated_mag : (r : ℕ) {a : ℕ} → r ≤ suc a → mag (neg_ℤ (pos r)) ≤ a
negated_mag zero h = zero-le
negated_mag (suc r) h = le_of_suc-le-suc h

floor_mag : (n d : ℤ) → mag (floor n d) ≤ mag n
unfolding floor
floor_mag (pos a) d = div-le_self a (nat_abs d)
floor_mag (negsuc a) d = div-le_self a (nat_abs d)

ceiling_mag : (n d : ℤ) → mag (ceiling n d) ≤ mag n
unfolding floor ceiling
ceiling_mag (pos zero) d = negated_mag (0 / nat_abs d) (le_trans (div-le_self 0 (nat_abs d)) zero-le)
ceiling_mag (pos (suc a)) d = suc-le-suc (div-le_self a (nat_abs d))
ceiling_mag (negsuc a) d = negated_mag (suc a / nat_abs d) (div-le_self (suc a) (nat_abs d))

quotient_mag : (n d : ℤ) → pos 0 <ℤ d → mag (quot_z n d) ≤ mag n
quotient_mag (pos a) (pos b) h = div-le_self a b
quotient_mag (negsuc a) (pos b) h = negated_mag (suc a / b) (div-le_self (suc a) b)
quotient_mag (pos a) (negsuc b) h = absurd h.lt
quotient_mag (negsuc a) (negsuc b) h = absurd h.lt

module _ {w : Width} {n : ℤ} (d : ℤ) (hn : SFits w n) where
  pub floor_fits : SFits w (floor n d)
  floor_fits = record { sfits = lt_of_le_of_lt (floor_mag n d) hn.sfits }

  pub ceiling_fits : SFits w (ceiling n d)
  ceiling_fits = record { sfits = lt_of_le_of_lt (ceiling_mag n d) hn.sfits }

  pub quotient_fits : pos 0 <ℤ d → SFits w (quot_z n d)
  quotient_fits hd = record { sfits = lt_of_le_of_lt (quotient_mag n d hd) hn.sfits }

  pub remainder_fits : SFits w (rem_z n d)
  remainder_fits = record { sfits = lt_of_le_of_lt (mag_rem n d) hn.sfits }

-- ---- rounding of what the machine holds
divisor_bits : (w : Width) (d : ℤ) → pos 0 <ℤ d → zero < of_z w d
divisor_bits w (pos D) h = ltb→lt zero D h.lt
divisor_bits w (negsuc D) h = absurd h.lt

module _ {w : Width} {n d : ℤ} (hn : SFits w n) (hd : SFits w d) (h : pos 0 <ℤ d) where
  quotient_stored : stored w (quot_z (stored w n) (stored w d)) ≡ quot_z n d
  quotient_stored = simp (to_z-of_z, hn, hd, quotient_fits d hn h)

  test_stored : {b : Bool} (X : ℤ → Bool) → X (stored w (rem_z (stored w n) (stored w d))) ≡ b → X (rem_z n d) ≡ b
  test_stored X t = simp (to_z-of_z, hn, hd, remainder_fits d hn) at t

  -- `n / d` and `n % d` are defined
  pub division_defined : (zero < of_z w d) × SFits w (quot_z (stored w n) (stored w d))
  division_defined = (divisor_bits w d h, simp (to_z-of_z, hn, hd) (quotient_fits d hn h))

  module _ (t : lt_z (stored w (rem_z (stored w n) (stored w d))) (pos 0) ≡ true) where
    less_one : stored w (quot_z (stored w n) (stored w d)) -ℤ pos 1 ≡ floor n d
    less_one = ap (λ z. z -ℤ pos 1) quotient_stored ∙ floor_then n d h (test_stored (λ z. lt_z z (pos 0)) t)

    pub floor_then_fits : SFits w (stored w (quot_z (stored w n) (stored w d)) -ℤ pos 1)
    floor_then_fits = rw less_one (floor_fits d hn)

    pub floor_then_is : stored w (stored w (quot_z (stored w n) (stored w d)) -ℤ pos 1) ≡ floor n d
    floor_then_is = to_z-of_z floor_then_fits ∙ less_one

  pub floor_else_is : lt_z (stored w (rem_z (stored w n) (stored w d))) (pos 0) ≡ false → stored w (quot_z (stored w n) (stored w d)) ≡ floor n d
  floor_else_is t = quotient_stored ∙ floor_else n d h (test_stored (λ z. lt_z z (pos 0)) t)

  module _ (t : lt_z (pos 0) (stored w (rem_z (stored w n) (stored w d))) ≡ true) where
    one_more : stored w (quot_z (stored w n) (stored w d)) +ℤ pos 1 ≡ ceiling n d
    one_more = ap (λ z. z +ℤ pos 1) quotient_stored ∙ ceiling_then n d h (test_stored (λ z. lt_z (pos 0) z) t)

    pub ceiling_then_fits : SFits w (stored w (quot_z (stored w n) (stored w d)) +ℤ pos 1)
    ceiling_then_fits = rw one_more (ceiling_fits d hn)

    pub ceiling_then_is : stored w (stored w (quot_z (stored w n) (stored w d)) +ℤ pos 1) ≡ ceiling n d
    ceiling_then_is = to_z-of_z ceiling_then_fits ∙ one_more

  pub ceiling_else_is : lt_z (pos 0) (stored w (rem_z (stored w n) (stored w d))) ≡ false → stored w (quot_z (stored w n) (stored w d)) ≡ ceiling n d
  ceiling_else_is t = quotient_stored ∙ ceiling_else n d h (test_stored (λ z. lt_z (pos 0) z) t)
