-- The coefficients of a polynomial over a stretch of its parameters, between any two rational parameters: p0 / w and p1 / w, where
-- w = p0 + r0 = p1 + r1. `stretch_value` says what their value is, `part_part` that a stretch of a stretch is a stretch of the whole. Halving at 1/2
-- is one case (`half_part`), a third of a stretch another, and one of many stretches of one length a further one (`span`).
use mathlib.Core.Path.{◌≡◌, refl, sym, ◌∙◌, ap, ap₂, fun_ext}
use mathlib.Core.List.{List, [], ◌∷◌}
use Prim.Native.Nat.{ℕ, zero, suc, ◌+◌, ◌*◌, ◌-◌, ◌^◌, ◌≤◌, zero-le, suc-le-suc}
use native.Mathlib.Nat.{le_of_suc-le-suc, not-suc-le-zero, mul_assoc, pow-zero, pow-suc, one-mul}
use native.Mathlib.Omega.{arith}
use lib.IntN.{ℤ, pos, negsuc, nat_abs, ◌+ℤ◌, ◌-ℤ◌, ◌*ℤ◌, pow, one, +ℤ_comm}
use Rattle.integers.specs.Entry.{entry}
use Rattle.integers.proofs.Ring.{ring, sides}
use Rattle.integers.proofs.Order.{NonNeg, ◌+₀◌, ◌×₀◌}
use Rattle.curve_bernstein.specs.Value.{value}
use Rattle.curve_bernstein.proofs.Recursion.{casteljau, casteljau_ext, casteljau_mix, casteljau_nonneg, casteljau_constant}
use Rattle.curve_bernstein.proofs.Recursion.{casteljau_times, casteljau_size, mix_size, value_is, one_on}

-- ---- one de Casteljau step at the weights p, r: neighbours mixed
abbrev pub mix : ℤ → ℤ → (ℕ → ℤ) → ℕ → ℤ
mix p r f k = r *ℤ f k +ℤ p *ℤ f (suc k)

pub casteljau_step : (p r : ℤ) (n : ℕ) (f : ℕ → ℤ) → casteljau p r (suc n) f ≡ casteljau p r n (mix p r f)
unfolding casteljau
casteljau_step p r n f = sym (casteljau_mix p r r p n f (λ k. f (suc k)))

pub mix_swap : (p r s t : ℤ) (f : ℕ → ℤ) → mix p r (mix s t f) ≡ mix s t (mix p r f)
mix_swap p r s t f = fun_ext (λ k. swap (f k) (f (suc k)) (f (suc (suc k))))
  where
    swap : (a b c : ℤ) → r *ℤ (t *ℤ a +ℤ s *ℤ b) +ℤ p *ℤ (t *ℤ b +ℤ s *ℤ c) ≡ t *ℤ (r *ℤ a +ℤ p *ℤ b) +ℤ s *ℤ (r *ℤ b +ℤ p *ℤ c)
    swap a b c = ring (p ∷ r ∷ s ∷ t ∷ a ∷ b ∷ c ∷ []) (search sides depth 40 fits 9999) refl

-- ---- over sequences
module _ (p0 r0 p1 r1 : ℤ) where
  -- w^n times coefficient k of the stretch: k steps at the far end, n − k at the near one
  unfoldable pub part : ℕ → (ℕ → ℤ) → ℕ → ℤ
  part zero f k = f zero
  part (suc n) f zero = casteljau p0 r0 (suc n) f
  part (suc n) f (suc k) = part n (mix p1 r1 f) k

  pub part_near : (n : ℕ) (f : ℕ → ℤ) (k : ℕ) → k ≤ n → part (suc n) f k ≡ part n (mix p0 r0 f) k
  unfolding part casteljau
  part_near zero f zero h = refl
  part_near (suc n) f zero h = casteljau_step p0 r0 (suc n) f
  part_near zero f (suc k) h = absurd (not-suc-le-zero h)
  part_near (suc n) f (suc k) h = part_near n (mix p1 r1 f) k (le_of_suc-le-suc h) ∙ ap (λ g. part n g k) (mix_swap p0 r0 p1 r1 f)

  -- only the first n + 1 coefficients count
  pub part_ext : (n : ℕ) (f g : ℕ → ℤ) → ((k : ℕ) → k ≤ n → f k ≡ g k) → (k : ℕ) → part n f k ≡ part n g k
  unfolding part
  part_ext zero f g h k = h zero zero-le
  part_ext (suc n) f g h zero = casteljau_ext p0 r0 (suc n) f g h
  part_ext (suc n) f g h (suc k) =
      part_ext n (mix p1 r1 f) (mix p1 r1 g) (λ j l. ap₂ (λ x y. r1 *ℤ x +ℤ p1 *ℤ y) (h j (one_on l)) (h (suc j) (suc-le-suc l))) k

  -- its value at the weights b, a is the whole's at the mixed weights
  pub part_value : (a b : ℤ) (n : ℕ) (f : ℕ → ℤ) → casteljau b a n (part n f) ≡ casteljau (a *ℤ p0 +ℤ b *ℤ p1) (a *ℤ r0 +ℤ b *ℤ r1) n f
  unfolding part casteljau
  part_value a b zero f = refl
  part_value a b (suc n) f =
      let P = a *ℤ p0 +ℤ b *ℤ p1 in
      let R = a *ℤ r0 +ℤ b *ℤ r1 in
      ap₂ (λ x y. a *ℤ x +ℤ b *ℤ y)
      (casteljau_ext b a n (part (suc n) f) (part n (mix p0 r0 f)) (part_near n f) ∙ part_value a b n (mix p0 r0 f))
      (part_value a b n (mix p1 r1 f))
      ∙ sym (casteljau_mix P R a b n (mix p0 r0 f) (mix p1 r1 f))
      ∙ ap (λ g. casteljau P R n g) (fun_ext (λ k. turn (f k) (f (suc k))))
      ∙ sym (casteljau_step P R n f)
    where
      turn : (x y : ℤ) → a *ℤ (r0 *ℤ x +ℤ p0 *ℤ y) +ℤ b *ℤ (r1 *ℤ x +ℤ p1 *ℤ y) ≡ (a *ℤ r0 +ℤ b *ℤ r1) *ℤ x +ℤ (a *ℤ p0 +ℤ b *ℤ p1) *ℤ y
      turn x y = ring (a ∷ b ∷ p0 ∷ r0 ∷ p1 ∷ r1 ∷ x ∷ y ∷ []) (search sides depth 40 fits 9999) refl

  -- linear, not negative where the coefficients are not, and constant where they are
  pub part_mix : (α β : ℤ) (n : ℕ) (f g : ℕ → ℤ) (k : ℕ) → part n (λ j. α *ℤ f j +ℤ β *ℤ g j) k ≡ α *ℤ part n f k +ℤ β *ℤ part n g k
  unfolding part
  part_mix α β zero f g k = refl
  part_mix α β (suc n) f g zero = casteljau_mix p0 r0 α β (suc n) f g
  part_mix α β (suc n) f g (suc k) =
      ap (λ h. part n h k) (fun_ext (λ j. turn (f j) (f (suc j)) (g j) (g (suc j))))
      ∙ part_mix α β n (mix p1 r1 f) (mix p1 r1 g) k
    where
      turn : (a b c d : ℤ) → r1 *ℤ (α *ℤ a +ℤ β *ℤ c) +ℤ p1 *ℤ (α *ℤ b +ℤ β *ℤ d) ≡ α *ℤ (r1 *ℤ a +ℤ p1 *ℤ b) +ℤ β *ℤ (r1 *ℤ c +ℤ p1 *ℤ d)
      turn a b c d = ring (p1 ∷ r1 ∷ α ∷ β ∷ a ∷ b ∷ c ∷ d ∷ []) (search sides depth 40 fits 9999) refl

  pub part_nonneg : NonNeg p0 → NonNeg r0 → NonNeg p1 → NonNeg r1 → (n : ℕ) (f : ℕ → ℤ)
      → ((k : ℕ) → k ≤ n → NonNeg (f k)) → (k : ℕ) → k ≤ n → NonNeg (part n f k)
  unfolding part
  part_nonneg h0 g0 h1 g1 zero f h k l = h zero zero-le
  part_nonneg h0 g0 h1 g1 (suc n) f h zero l = casteljau_nonneg p0 r0 h0 g0 (suc n) f h
  part_nonneg h0 g0 h1 g1 (suc n) f h (suc k) l =
      part_nonneg h0 g0 h1 g1 n (mix p1 r1 f) (λ j m. g1 ×₀ h j (one_on m) +₀ h1 ×₀ h (suc j) (suc-le-suc m)) k (le_of_suc-le-suc l)

  pub part_constant : (w : ℤ) → p0 +ℤ r0 ≡ w → p1 +ℤ r1 ≡ w → (B : ℤ) (n k : ℕ) → k ≤ n → part n (λ j. B) k ≡ pow w n *ℤ B
  unfolding part pow one
  part_constant w e0 e1 B zero k l = ring (B ∷ []) (search sides depth 20) refl
  part_constant w e0 e1 B (suc n) zero l = casteljau_constant p0 r0 B (suc n) ∙ ap (λ q. pow q (suc n) *ℤ B) e0
  part_constant w e0 e1 B (suc n) (suc k) l =
      ap (λ b. part n (λ j. b) k) (ring (p1 ∷ r1 ∷ B ∷ []) {a = r1 *ℤ B +ℤ p1 *ℤ B} {b = (p1 +ℤ r1) *ℤ B} (search sides depth 20) refl
      ∙ ap (λ q. q *ℤ B) e1)
      ∙ part_constant w e0 e1 (w *ℤ B) n k (le_of_suc-le-suc l)
      ∙ ring (pow w n ∷ w ∷ B ∷ []) (search sides depth 20) refl

  -- where the ends are 1 / w apart, the differences of neighbours are the stretch of the differences
  pub part_difference : p1 ≡ p0 +ℤ pos 1 → r0 ≡ r1 +ℤ pos 1 → (n : ℕ) (f : ℕ → ℤ) (k : ℕ) → k ≤ n
      → part (suc n) f (suc k) -ℤ part (suc n) f k ≡ part n (λ j. f (suc j) -ℤ f j) k
  unfolding part
  part_difference e0 e1 n f k l =
      ap (λ z. part n (mix p1 r1 f) k -ℤ z) (part_near n f k l)
      ∙ back (part n (mix p1 r1 f) k) (part n (mix p0 r0 f) k)
      ∙ sym (part_mix (pos 1) (negsuc 0) n (mix p1 r1 f) (mix p0 r0 f) k)
      ∙ ap (λ g. part n g k) (fun_ext (λ j. turn (f j) (f (suc j))))
    where
      back : (x y : ℤ) → x -ℤ y ≡ pos 1 *ℤ x +ℤ negsuc 0 *ℤ y
      back x y = ring (x ∷ y ∷ []) (search sides depth 20) refl

      turn : (x y : ℤ) → pos 1 *ℤ (r1 *ℤ x +ℤ p1 *ℤ y) +ℤ negsuc 0 *ℤ (r0 *ℤ x +ℤ p0 *ℤ y) ≡ y -ℤ x
      turn x y = ap₂ (λ p r. pos 1 *ℤ (r1 *ℤ x +ℤ p *ℤ y) +ℤ negsuc 0 *ℤ (r *ℤ x +ℤ p0 *ℤ y)) e0 e1
          ∙ ring (p0 ∷ r1 ∷ x ∷ y ∷ []) (search sides depth 20) refl

-- at most w^n times the largest coefficient in size
pub part_size : (p0 r0 p1 r1 w : ℕ) → p0 + r0 ≡ w → p1 + r1 ≡ w → (B n : ℕ) (f : ℕ → ℤ) → ((k : ℕ) → k ≤ n → nat_abs (f k) ≤ B)
    → (k : ℕ) → k ≤ n → nat_abs (part (pos p0) (pos r0) (pos p1) (pos r1) n f k) ≤ w ^ n * B
unfolding part
part_size p0 r0 p1 r1 w e0 e1 B zero f h k l = rw (pow-zero, one-mul) (h zero zero-le)
part_size p0 r0 p1 r1 w e0 e1 B (suc n) f h zero l = rw (← e0) (casteljau_size p0 r0 B (suc n) f h)
part_size p0 r0 p1 r1 w e0 e1 B (suc n) f h (suc k) l = rw (pow-suc, mul_assoc) (part_size p0 r0 p1 r1 w e0 e1 (w * B) n (mix (pos p1) (pos r1) f)
    (λ j m. rw (← e1) (mix_size p1 r1 (f j) (f (suc j)) (h j (one_on m)) (h (suc j) (suc-le-suc m)))) k (le_of_suc-le-suc l))

-- ---- a stretch of a stretch
-- a step on neighbours that were exchanged is the step with its weights exchanged
turned : (p r : ℤ) {x y a b : ℤ} → x ≡ b → y ≡ a → r *ℤ x +ℤ p *ℤ y ≡ p *ℤ a +ℤ r *ℤ b
turned p r {x} {y} {a} {b} u v = ap₂ (λ x y. r *ℤ x +ℤ p *ℤ y) u v ∙ +ℤ_comm (r *ℤ b) (p *ℤ a)

module _ (p0 r0 p1 r1 : ℤ) where
  -- one step on a stretch is a step on the whole, at the mixed weights
  mix_part : (s t : ℤ) (n : ℕ) (f : ℕ → ℤ) (k : ℕ) → k ≤ n
      → mix s t (part p0 r0 p1 r1 (suc n) f) k ≡ part p0 r0 p1 r1 n (mix (t *ℤ p0 +ℤ s *ℤ p1) (t *ℤ r0 +ℤ s *ℤ r1) f) k
  unfolding part
  mix_part s t n f k l =
      ap (λ x. t *ℤ x +ℤ s *ℤ part p0 r0 p1 r1 n (mix p1 r1 f) k) (part_near p0 r0 p1 r1 n f k l)
      ∙ sym (part_mix p0 r0 p1 r1 t s n (mix p0 r0 f) (mix p1 r1 f) k)
      ∙ ap (λ g. part p0 r0 p1 r1 n g k) (fun_ext (λ j. turn (f j) (f (suc j))))
    where
      turn : (x y : ℤ) → t *ℤ (r0 *ℤ x +ℤ p0 *ℤ y) +ℤ s *ℤ (r1 *ℤ x +ℤ p1 *ℤ y) ≡ (t *ℤ r0 +ℤ s *ℤ r1) *ℤ x +ℤ (t *ℤ p0 +ℤ s *ℤ p1) *ℤ y
      turn x y = ring (s ∷ t ∷ p0 ∷ r0 ∷ p1 ∷ r1 ∷ x ∷ y ∷ []) (search sides depth 40 fits 9999) refl

  -- it is a stretch of the whole, whose ends are the mixed weights
  pub part_part : (s0 t0 s1 t1 : ℤ) (n : ℕ) (f : ℕ → ℤ) (k : ℕ) → k ≤ n
      → part s0 t0 s1 t1 n (part p0 r0 p1 r1 n f) k
      ≡ part (t0 *ℤ p0 +ℤ s0 *ℤ p1) (t0 *ℤ r0 +ℤ s0 *ℤ r1) (t1 *ℤ p0 +ℤ s1 *ℤ p1) (t1 *ℤ r0 +ℤ s1 *ℤ r1) n f k
  unfolding part
  part_part s0 t0 s1 t1 zero f k l = refl
  part_part s0 t0 s1 t1 (suc n) f zero l = part_value p0 r0 p1 r1 t0 s0 (suc n) f
  part_part s0 t0 s1 t1 (suc n) f (suc k) l =
      let g = mix (t1 *ℤ p0 +ℤ s1 *ℤ p1) (t1 *ℤ r0 +ℤ s1 *ℤ r1) f in
      part_ext s0 t0 s1 t1 n (mix s1 t1 (part p0 r0 p1 r1 (suc n) f)) (part p0 r0 p1 r1 n g) (mix_part s1 t1 n f) k
      ∙ part_part s0 t0 s1 t1 n g k (le_of_suc-le-suc l)

  -- weights w times as large make the coefficients w^n times as large
  pub part_times : (w : ℤ) (n : ℕ) (f : ℕ → ℤ) (k : ℕ) → k ≤ n
      → part (w *ℤ p0) (w *ℤ r0) (w *ℤ p1) (w *ℤ r1) n f k ≡ pow w n *ℤ part p0 r0 p1 r1 n f k
  unfolding part pow one
  part_times w zero f k l = ring (f 0 ∷ []) (search sides depth 20) refl
  part_times w (suc n) f zero l = casteljau_times p0 r0 w (suc n) f
  part_times w (suc n) f (suc k) l =
      part_times w n (mix (w *ℤ p1) (w *ℤ r1) f) k (le_of_suc-le-suc l)
      ∙ ap (λ z. pow w n *ℤ z)
      (ap (λ g. part p0 r0 p1 r1 n g k) (fun_ext (λ j. turn (f j) (f (suc j)))) ∙ part_mix p0 r0 p1 r1 w (pos 0) n (mix p1 r1 f) f k)
      ∙ last (pow w n) (part p0 r0 p1 r1 n (mix p1 r1 f) k) (part p0 r0 p1 r1 n f k)
    where
      turn : (x y : ℤ) → w *ℤ r1 *ℤ x +ℤ w *ℤ p1 *ℤ y ≡ w *ℤ (r1 *ℤ x +ℤ p1 *ℤ y) +ℤ pos 0 *ℤ x
      turn x y = ring (w ∷ p1 ∷ r1 ∷ x ∷ y ∷ []) (search sides depth 20) refl

      last : (u x y : ℤ) → u *ℤ (w *ℤ x +ℤ pos 0 *ℤ y) ≡ u *ℤ w *ℤ x
      last u x y = ring (w ∷ u ∷ x ∷ y ∷ []) (search sides depth 20) refl

  -- over coefficients in reverse order, the stretch is the mirrored one in reverse order
  pub part_reversed : (n : ℕ) (f g : ℕ → ℤ) → ((j i : ℕ) → j + i ≡ n → g j ≡ f i) → (k m : ℕ) → k + m ≡ n
      → part p0 r0 p1 r1 n g m ≡ part r1 p1 r0 p0 n f k
  unfolding part
  part_reversed zero f g h k m e = h 0 0 refl
  part_reversed (suc n) f g h zero m e =
      ap (part p0 r0 p1 r1 (suc n) g) {x = m} {y = suc n} (omega arith)
      ∙ part_reversed n (mix r1 p1 f) (mix p1 r1 g) (λ j i l. turned p1 r1 (h j (suc i) (omega arith)) (h (suc j) i (omega arith))) 0 n (omega arith)
      ∙ sym (part_near r1 p1 r0 p0 n f 0 zero-le)
  part_reversed (suc n) f g h (suc k) m e =
      part_near p0 r0 p1 r1 n g m (omega arith)
      ∙ part_reversed n (mix r0 p0 f) (mix p0 r0 g) (λ j i l. turned p0 r0 (h j (suc i) (omega arith)) (h (suc j) i (omega arith))) k m (omega arith)

-- ---- one of many stretches of one length, end to end: s come before it and e after it
abbrev pub span : (s e : ℕ) → ℕ → (ℕ → ℤ) → ℕ → ℤ
span s e n f k = part (pos s) (pos (suc e)) (pos (suc s)) (pos e) n f k

first : (n : ℕ) (f : ℕ → ℤ) → casteljau (pos 0) (pos 1) n f ≡ f 0
unfolding casteljau
first zero f = refl
first (suc n) f =
    ap (λ x. pos 1 *ℤ x +ℤ pos 0 *ℤ casteljau (pos 0) (pos 1) n (λ k. f (suc k))) (first n f)
    ∙ ring (f 0 ∷ casteljau (pos 0) (pos 1) n (λ k. f (suc k)) ∷ []) (search sides depth 20) refl

-- the only one is the whole
pub span_whole : (n : ℕ) (f : ℕ → ℤ) (k : ℕ) → k ≤ n → span 0 0 n f k ≡ f k
unfolding part
span_whole zero f zero l = refl
span_whole zero f (suc k) l = absurd (not-suc-le-zero l)
span_whole (suc n) f zero l = first (suc n) f
span_whole (suc n) f (suc k) l =
    span_whole n (mix (pos 1) (pos 0) f) k (le_of_suc-le-suc l) ∙ ring (f k ∷ f (suc k) ∷ []) (search sides depth 20) refl

-- ---- over lists, which compute
-- neighbours mixed; past the end they are 0
abbrev pub mixed : ℤ → ℤ → List ℤ → List ℤ
mixed p r [] = []
mixed p r (c ∷ cs) = (r *ℤ c +ℤ p *ℤ entry cs 0) ∷ mixed p r cs

-- the value, by mixing neighbours until one number is left
abbrev pub mixing : ℤ → ℤ → ℕ → List ℤ → ℤ
mixing p r zero cs = entry cs 0
mixing p r (suc n) cs = mixing p r n (mixed p r cs)

abbrev pub stretch : ℤ → ℤ → ℤ → ℤ → ℕ → List ℤ → List ℤ
stretch p0 r0 p1 r1 zero cs = entry cs 0 ∷ []
stretch p0 r0 p1 r1 (suc n) cs = mixing p0 r0 (suc n) cs ∷ stretch p0 r0 p1 r1 n (mixed p1 r1 cs)

mixed_at : (p r : ℤ) (cs : List ℤ) (k : ℕ) → entry (mixed p r cs) k ≡ mix p r (entry cs) k
mixed_at p r [] k = ring (p ∷ r ∷ []) (search sides depth 20) refl
mixed_at p r (c ∷ []) zero = refl
mixed_at p r (c ∷ d ∷ cs) zero = refl
mixed_at p r (c ∷ cs) (suc k) = mixed_at p r cs k

mixed_is : (p r : ℤ) (cs : List ℤ) → entry (mixed p r cs) ≡ mix p r (entry cs)
mixed_is p r cs = fun_ext (mixed_at p r cs)

mixing_is : (p r : ℤ) (n : ℕ) (cs : List ℤ) → mixing p r n cs ≡ casteljau p r n (entry cs)
unfolding casteljau
mixing_is p r zero cs = refl
mixing_is p r (suc n) cs = mixing_is p r n (mixed p r cs) ∙ ap (casteljau p r n) (mixed_is p r cs) ∙ sym (casteljau_step p r n (entry cs))

module _ (p0 r0 p1 r1 : ℤ) where
  pub stretch_is : (n : ℕ) (cs : List ℤ) (k : ℕ) → k ≤ n → entry (stretch p0 r0 p1 r1 n cs) k ≡ part p0 r0 p1 r1 n (entry cs) k
  unfolding part
  stretch_is zero cs zero h = refl
  stretch_is zero cs (suc k) h = absurd (not-suc-le-zero h)
  stretch_is (suc n) cs zero h = mixing_is p0 r0 (suc n) cs
  stretch_is (suc n) cs (suc k) h = stretch_is n (mixed p1 r1 cs) k (le_of_suc-le-suc h) ∙ ap (λ g. part p0 r0 p1 r1 n g k) (mixed_is p1 r1 cs)

  -- the value of any list that has the coefficients of a stretch
  pub part_list_value : (a b : ℤ) (n : ℕ) (cs hs : List ℤ) → ((k : ℕ) → k ≤ n → entry hs k ≡ part p0 r0 p1 r1 n (entry cs) k)
      → value b a n hs ≡ value (a *ℤ p0 +ℤ b *ℤ p1) (a *ℤ r0 +ℤ b *ℤ r1) n cs
  part_list_value a b n cs hs h =
      value_is b a n hs
      ∙ casteljau_ext b a n (entry hs) (part p0 r0 p1 r1 n (entry cs)) h
      ∙ part_value p0 r0 p1 r1 a b n (entry cs)
      ∙ sym (value_is (a *ℤ p0 +ℤ b *ℤ p1) (a *ℤ r0 +ℤ b *ℤ r1) n cs)

  pub stretch_value : (a b : ℤ) (n : ℕ) (cs : List ℤ) → value b a n (stretch p0 r0 p1 r1 n cs) ≡ value (a *ℤ p0 +ℤ b *ℤ p1) (a *ℤ r0 +ℤ b *ℤ r1) n cs
  stretch_value a b n cs = part_list_value a b n cs (stretch p0 r0 p1 r1 n cs) (stretch_is n cs)

-- ---- the halves, times 2^n, by a bit b: 0 for the left one and 1 for the right one
abbrev pub half_part : ℕ → ℕ → (ℕ → ℤ) → ℕ → ℤ
half_part b n f k = part (pos b) (pos (suc (1 - b))) (pos (suc b)) (pos (1 - b)) n f k

pub half_part_value : (b : ℕ) (p r : ℤ) (n : ℕ) (cs hs : List ℤ) → ((k : ℕ) → k ≤ n → entry hs k ≡ half_part b n (entry cs) k)
    → value p r n hs ≡ value (pos b *ℤ (p +ℤ r) +ℤ p) (pos (1 - b) *ℤ (p +ℤ r) +ℤ r) n cs
half_part_value b p r n cs hs h =
    part_list_value (pos b) (pos (suc (1 - b))) (pos (suc b)) (pos (1 - b)) r p n cs hs h
    ∙ ap₂ (λ x y. value x y n cs) (ring (pos b ∷ p ∷ r ∷ []) (search sides depth 20) refl)
    (ring (pos (1 - b) ∷ p ∷ r ∷ []) (search sides depth 20) refl)
