-- A coordinate of one stretch carried on over the stretch that follows, which is w times as long, for every degree. The one begins where the other
-- ends, and the forward differences of both are stretches of the whole's forward differences, so the law goes by the degree.
use mathlib.Core.Path.{◌≡◌, refl, sym, ◌∙◌, ap, ap₂}
use mathlib.Core.List.{[], ◌∷◌}
use Prim.Native.Nat.{ℕ, zero, suc, ◌*◌, ◌^◌, ◌≤◌, ◌<◌, zero-le, suc-le-suc}
use native.Mathlib.Nat.{le_refl, le_of_suc-le-suc}
use lib.Pow.{pow_pos}
use lib.IntN.{ℤ, pos, ◌*ℤ◌, pow, +ℤ_one, ◌+ℤ◌, ◌-ℤ◌}
use lib.Signed.{shr_z}
use Rattle.integers.proofs.Ring.{ring, sides}
use Rattle.integers.proofs.Order.{natural, gap<, le_by, lt_by, pos_lt}
use Rattle.integers.proofs.Rounding.{floor_unique, shift_floor}
use Rattle.curve_bernstein.proofs.Recursion.{casteljau, casteljau_times, one_on}
use Rattle.curve_bernstein.proofs.Stretch.{mix, casteljau_step, part, part_difference, span}
use Rattle.curve_halves.proofs.Values.{denominator}
use Rattle.curve_onward.specs.Onward.{forward_difference, accumulated, onward_at}

-- After stretch s, of those with e after it, comes stretch s' of those that are w times as long, with e' after it.
pub record Follows (w s e s' e' : ℕ) : Type 0 where
  pub before : suc s ≡ w * s'
  pub after : e ≡ w * suc e'

-- ---- where a stretch begins and ends
module _ (p0 r0 p1 r1 : ℤ) where
  begins : (n : ℕ) (f : ℕ → ℤ) → part p0 r0 p1 r1 n f 0 ≡ casteljau p0 r0 n f
  unfolding part casteljau
  begins zero f = refl
  begins (suc n) f = refl

  ends : (n : ℕ) (f : ℕ → ℤ) → part p0 r0 p1 r1 n f n ≡ casteljau p1 r1 n f
  unfolding part casteljau
  ends zero f = refl
  ends (suc n) f = ends n (mix p1 r1 f) ∙ sym (casteljau_step p1 r1 n f)

ends_begin : {w s e s' e' : ℕ} → Follows w s e s' e' → (d : ℕ) (f : ℕ → ℤ) → span s e d f d ≡ pow (pos w) d *ℤ span s' e' d f 0
ends_begin {w} {s} {e} {s'} {e'} h d f =
    ends (pos s) (pos (suc e)) (pos (suc s)) (pos e) d f
    ∙ ap₂ (λ p r. casteljau (pos p) (pos r) d f) h.before h.after
    ∙ casteljau_times (pos s') (pos (suc e')) (pos w) d f
    ∙ ap (λ z. pow (pos w) d *ℤ z) (sym (begins (pos s') (pos (suc e')) (pos (suc s')) (pos e') d f))

-- ---- a division without a rest
exact : (m : ℕ) → 0 < m → (z : ℤ) → shr_z (pos m *ℤ z) m ≡ z
exact m h z = shift_floor (pos m *ℤ z) m ∙ sym (floor_unique (pos_lt h) (record {
  below = le_by (pos m ∷ z ∷ []) (natural 0) (search sides depth 20) refl;
  above = lt_by (pos m ∷ z ∷ []) (gap< (pos_lt h)) (search sides depth 20) refl;
}))

-- ---- the control values: the first, and the forward differences from each to the next
forward_differences : (s e n : ℕ) (f : ℕ → ℤ) (k : ℕ) → k ≤ n → forward_difference (span s e (suc n) f) k ≡ span s e n (forward_difference f) k
forward_differences s e = part_difference (pos s) (pos (suc e)) (pos (suc s)) (pos e) (sym (+ℤ_one (pos s))) (sym (+ℤ_one (pos e)))

accumulated_is : (z : ℤ) (f g : ℕ → ℤ) (n : ℕ) → z ≡ g 0 → ((i : ℕ) → i ≤ n → f i ≡ forward_difference g i) → (i : ℕ) → i ≤ suc n → accumulated z f i ≡ g i
unfolding accumulated
accumulated_is z f g n e h zero l = e
accumulated_is z f g n e h (suc i) l =
    ap₂ ◌+ℤ◌ (accumulated_is z f g n e h i (one_on (le_of_suc-le-suc l))) (h i (le_of_suc-le-suc l))
    ∙ ring (g i ∷ g (suc i) ∷ []) (search sides depth 20) refl

module _ (k : ℕ) {s e s' e' : ℕ} (follows : Follows (2 ^ k) s e s' e') where
  first : (d : ℕ) (f : ℕ → ℤ) → shr_z (span s e d f d) (2 ^ (d * k)) ≡ span s' e' d f 0
  first d f =
      ap (λ z. shr_z z (2 ^ (d * k))) (ends_begin follows d f ∙ ap (λ z. z *ℤ span s' e' d f 0) (denominator d k))
      ∙ exact (2 ^ (d * k)) (pow_pos (d * k)) (span s' e' d f 0)

  -- a coordinate over stretch s, carried on, is the coordinate over the stretch that follows
  pub onward_is : (d : ℕ) (f g : ℕ → ℤ) → ((j : ℕ) → j ≤ d → g j ≡ span s e d f j) → (i : ℕ) → i ≤ d → onward_at d k g i ≡ span s' e' d f i
  unfolding onward_at part
  onward_is zero f g h i l = h 0 zero-le
  onward_is (suc n) f g h i l =
      accumulated_is _ _ (span s' e' (suc n) f) n
      (ap (λ z. shr_z z (2 ^ (suc n * k))) (h (suc n) (le_refl (suc n))) ∙ first (suc n) f)
      (λ j m.
      onward_is n (forward_difference f) (forward_difference g) (λ a b. ap₂ ◌-ℤ◌ (h (suc a) (suc-le-suc b)) (h a (one_on b)) ∙ forward_differences s e n f a b) j m
      ∙ sym (forward_differences s' e' n f j m))
      i l
