-- The Bernstein sum by de Casteljau's recursion, over sequences of coefficients: `casteljau p r d f`. Most laws are proved of it by induction on
-- the degree, and `value_is` carries them to the sum.
use mathlib.Core.Path.{◌≡◌, refl, sym, ◌∙◌, ap, ap₂}
use mathlib.Core.List.{List, [], ◌∷◌}
use Prim.Native.Nat.{ℕ, zero, suc, ◌+◌, ◌*◌, ◌-◌, ◌^◌, ◌≤◌, ◌<◌, zero-le, suc-le-suc}
use native.Mathlib.Nat.{le_refl, le_of_suc-le-suc, le_trans, add-le-add, mul-le-mul_left, add_comm, add-mul, mul_assoc, one-mul, pow-zero, pow-succ'}
use native.Mathlib.Omega.{arith}
use lib.IntN.{ℤ, pos, nat_abs, ◌+ℤ◌, ◌*ℤ◌, pow, one}
use Rattle.integers.specs.Entry.{entry}
use Rattle.integers.proofs.Ring.{ring, sides}
use Rattle.integers.proofs.Order.{NonNeg, ◌+₀◌, ◌×₀◌}
use Rattle.integers.proofs.Size.{abs_add, abs_mul}
use Rattle.curve_bernstein.specs.Value.{choose, sum, value}

pub one_on : {k n : ℕ} → k ≤ n → k ≤ suc n
one_on h = omega arith

-- ---- sums
sum_ext : (d : ℕ) (f g : ℕ → ℤ) → ((i : ℕ) → i ≤ d → f i ≡ g i) → sum d f ≡ sum d g
unfolding sum
sum_ext zero f g h = h zero zero-le
sum_ext (suc d) f g h = ap₂ ◌+ℤ◌ (sum_ext d f g (λ i l. h i (one_on l))) (h (suc d) (le_refl (suc d)))

sum_first : (d : ℕ) (f : ℕ → ℤ) → sum (suc d) f ≡ f 0 +ℤ sum d (λ i. f (suc i))
unfolding sum
sum_first zero f = refl
sum_first (suc d) f =
    let s = sum d (λ i. f (suc i)) in
    let x = f (suc (suc d)) in
    ap (λ z. z +ℤ x) (sum_first d f) ∙ ring (f 0 ∷ s ∷ x ∷ []) (search sides depth 20) refl

sum_mix : (a b : ℤ) (d : ℕ) (f g : ℕ → ℤ) → sum d (λ i. a *ℤ f i +ℤ b *ℤ g i) ≡ a *ℤ sum d f +ℤ b *ℤ sum d g
unfolding sum
sum_mix a b zero f g = refl
sum_mix a b (suc d) f g =
    let s = sum d f in
    let t = sum d g in
    let x = f (suc d) in
    let y = g (suc d) in
    ap (λ z. z +ℤ (a *ℤ x +ℤ b *ℤ y)) (sum_mix a b d f g) ∙ ring (a ∷ b ∷ s ∷ t ∷ x ∷ y ∷ []) (search sides depth 20) refl

-- ---- the recursion
unfoldable pub casteljau : ℤ → ℤ → ℕ → (ℕ → ℤ) → ℤ
casteljau p r zero f = f zero
casteljau p r (suc d) f = r *ℤ casteljau p r d f +ℤ p *ℤ casteljau p r d (λ i. f (suc i))

choose_none : (d i : ℕ) → d < i → choose d i ≡ 0
unfolding choose
choose_none zero zero h = elim h [ ]
choose_none (suc d) zero h = elim h [ ]
choose_none zero (suc i) h = refl
choose_none (suc d) (suc i) h = ap₂ ◌+◌ (choose_none d i (le_of_suc-le-suc h)) (choose_none d (suc i) (one_on (le_of_suc-le-suc h)))

choose_zero : (d : ℕ) → choose d 0 ≡ 1
unfolding choose
choose_zero zero = refl
choose_zero (suc d) = refl

module _ (p r : ℤ) where
  abbrev term : ℕ → (ℕ → ℤ) → ℕ → ℤ
  term d f i = pos (choose d i) *ℤ f i *ℤ pow p i *ℤ pow r (d - i)

  -- the terms of degree d with one more power of r
  abbrev raised : ℕ → (ℕ → ℤ) → ℕ → ℤ
  raised d f i = pos (choose d i) *ℤ f i *ℤ pow p i *ℤ pow r (suc d - i)

  raised_sum : (d : ℕ) (f : ℕ → ℤ) → sum (suc d) (raised d f) ≡ r *ℤ sum d (term d f)
  unfolding sum pow
  raised_sum d f =
      ap₂ ◌+ℤ◌ (sum_ext d (raised d f) (λ i. r *ℤ term d f i +ℤ pos 0 *ℤ f i) lower ∙ sum_mix r (pos 0) d (term d f) f)
      (ap (λ (k : ℕ). pos k *ℤ f (suc d) *ℤ pow p (suc d) *ℤ pow r (suc d - suc d)) (choose_none d (suc d) (le_refl (suc d))))
      ∙ last (sum d (term d f)) (sum d f) (f (suc d)) (pow p (suc d)) (pow r (suc d - suc d))
    where
      above : (i : ℕ) → i ≤ d → suc d - i ≡ suc (d - i)
      above i l = omega arith

      out : (k x y z : ℤ) → k *ℤ x *ℤ y *ℤ (z *ℤ r) ≡ r *ℤ (k *ℤ x *ℤ y *ℤ z) +ℤ pos 0 *ℤ x
      out k x y z = ring (r ∷ k ∷ x ∷ y ∷ z ∷ []) (search sides depth 20) refl

      lower : (i : ℕ) → i ≤ d → raised d f i ≡ r *ℤ term d f i +ℤ pos 0 *ℤ f i
      lower i l = ap (λ (n : ℕ). pos (choose d i) *ℤ f i *ℤ pow p i *ℤ pow r n) (above i l) ∙ out (pos (choose d i)) (f i) (pow p i) (pow r (d - i))

      last : (s t x y z : ℤ) → r *ℤ s +ℤ pos 0 *ℤ t +ℤ pos 0 *ℤ x *ℤ y *ℤ z ≡ r *ℤ s
      last s t x y z = ring (r ∷ s ∷ t ∷ x ∷ y ∷ z ∷ []) (search sides depth 20) refl

  step : (d : ℕ) (f : ℕ → ℤ) → sum (suc d) (term (suc d) f) ≡ r *ℤ sum d (term d f) +ℤ p *ℤ sum d (term d (λ i. f (suc i)))
  unfolding choose pow
  step d f =
      sum_first d (term (suc d) f)
      ∙ ap₂ ◌+ℤ◌ first (sum_ext d (λ i. term (suc d) f (suc i)) (λ i. p *ℤ term d g i +ℤ pos 1 *ℤ raised d f (suc i)) (λ i l. next i)
      ∙ sum_mix p (pos 1) d (term d g) (λ i. raised d f (suc i)))
      ∙ turn (raised d f 0) (sum d (term d g)) (sum d (λ i. raised d f (suc i)))
      ∙ ap (λ z. z +ℤ p *ℤ sum d (term d g)) (sym (sum_first d (raised d f)) ∙ raised_sum d f)
    where
      g : ℕ → ℤ
      g i = f (suc i)

      first : term (suc d) f 0 ≡ raised d f 0
      first = ap (λ (k : ℕ). pos k *ℤ f 0 *ℤ pow p 0 *ℤ pow r (suc d - 0)) (sym (choose_zero d))

      split : (j k x y z : ℤ) → (j +ℤ k) *ℤ x *ℤ (y *ℤ p) *ℤ z ≡ p *ℤ (j *ℤ x *ℤ y *ℤ z) +ℤ pos 1 *ℤ (k *ℤ x *ℤ (y *ℤ p) *ℤ z)
      split j k x y z = ring (p ∷ j ∷ k ∷ x ∷ y ∷ z ∷ []) (search sides depth 20) refl

      below : (i : ℕ) → suc d - suc i ≡ d - i
      below i = omega arith

      next : (i : ℕ) → term (suc d) f (suc i) ≡ p *ℤ term d g i +ℤ pos 1 *ℤ raised d f (suc i)
      next i =
          ap (λ (n : ℕ). pos (choose d i + choose d (suc i)) *ℤ f (suc i) *ℤ pow p (suc i) *ℤ pow r n) (below i)
          ∙ split (pos (choose d i)) (pos (choose d (suc i))) (f (suc i)) (pow p i) (pow r (d - i))
          ∙ ap (λ (n : ℕ). p *ℤ term d g i +ℤ pos 1 *ℤ (pos (choose d (suc i)) *ℤ f (suc i) *ℤ pow p (suc i) *ℤ pow r n)) (sym (below i))

      turn : (a s t : ℤ) → a +ℤ (p *ℤ s +ℤ pos 1 *ℤ t) ≡ a +ℤ t +ℤ p *ℤ s
      turn a s t = ring (p ∷ a ∷ s ∷ t ∷ []) (search sides depth 20) refl

  pub sum_is : (d : ℕ) (f : ℕ → ℤ) → sum d (term d f) ≡ casteljau p r d f
  unfolding casteljau choose sum pow one
  sum_is zero f = ring (f 0 ∷ []) (search sides depth 20) refl
  sum_is (suc d) f = step d f ∙ ap₂ (λ x y. r *ℤ x +ℤ p *ℤ y) (sum_is d f) (sum_is d (λ i. f (suc i)))

pub value_is : (p r : ℤ) (d : ℕ) (cs : List ℤ) → value p r d cs ≡ casteljau p r d (entry cs)
unfolding value
value_is p r d cs = sum_is p r d (entry cs)

-- ---- laws, by induction on the degree
module _ (p r : ℤ) where
  -- only the first d + 1 coefficients count
  pub casteljau_ext : (d : ℕ) (f g : ℕ → ℤ) → ((k : ℕ) → k ≤ d → f k ≡ g k) → casteljau p r d f ≡ casteljau p r d g
  unfolding casteljau
  casteljau_ext zero f g h = h zero zero-le
  casteljau_ext (suc d) f g h = ap₂ (λ x y. r *ℤ x +ℤ p *ℤ y)
      (casteljau_ext d f g (λ k l. h k (one_on l))) (casteljau_ext d (λ k. f (suc k)) (λ k. g (suc k)) (λ k l. h (suc k) (suc-le-suc l)))

  -- linear in the coefficients
  pub casteljau_mix : (a b : ℤ) (d : ℕ) (f g : ℕ → ℤ) → casteljau p r d (λ k. a *ℤ f k +ℤ b *ℤ g k) ≡ a *ℤ casteljau p r d f +ℤ b *ℤ casteljau p r d g
  unfolding casteljau
  casteljau_mix a b zero f g = refl
  casteljau_mix a b (suc d) f g =
      let s = casteljau p r d f in
      let t = casteljau p r d g in
      let u = casteljau p r d (λ k. f (suc k)) in
      let v = casteljau p r d (λ k. g (suc k)) in
      ap₂ (λ x y. r *ℤ x +ℤ p *ℤ y) (casteljau_mix a b d f g) (casteljau_mix a b d (λ k. f (suc k)) (λ k. g (suc k)))
      ∙ ring (p ∷ r ∷ a ∷ b ∷ s ∷ t ∷ u ∷ v ∷ []) (search sides depth 20) refl

  -- not negative where the weights and the coefficients are not
  pub casteljau_nonneg : NonNeg p → NonNeg r → (d : ℕ) (f : ℕ → ℤ) → ((k : ℕ) → k ≤ d → NonNeg (f k)) → NonNeg (casteljau p r d f)
  unfolding casteljau
  casteljau_nonneg hp hr zero f h = h zero zero-le
  casteljau_nonneg hp hr (suc d) f h =
      hr ×₀ casteljau_nonneg hp hr d f (λ k l. h k (one_on l)) +₀ hp ×₀ casteljau_nonneg hp hr d (λ k. f (suc k)) (λ k l. h (suc k) (suc-le-suc l))

  -- one coefficient throughout
  pub casteljau_constant : (B : ℤ) (d : ℕ) → casteljau p r d (λ k. B) ≡ pow (p +ℤ r) d *ℤ B
  unfolding casteljau pow one
  casteljau_constant B zero = ring (B ∷ []) (search sides depth 20) refl
  casteljau_constant B (suc d) =
      let w = pow (p +ℤ r) d in
      ap₂ (λ x y. r *ℤ x +ℤ p *ℤ y) (casteljau_constant B d) (casteljau_constant B d) ∙ ring (p ∷ r ∷ B ∷ w ∷ []) (search sides depth 20) refl

  -- weights k times as large
  pub casteljau_times : (k : ℤ) (d : ℕ) (f : ℕ → ℤ) → casteljau (k *ℤ p) (k *ℤ r) d f ≡ pow k d *ℤ casteljau p r d f
  unfolding casteljau pow one
  casteljau_times k zero f = ring (f zero ∷ []) (search sides depth 20) refl
  casteljau_times k (suc d) f =
      let w = pow k d in
      let a = casteljau p r d f in
      let b = casteljau p r d (λ i. f (suc i)) in
      ap₂ (λ x y. k *ℤ r *ℤ x +ℤ k *ℤ p *ℤ y) (casteljau_times k d f) (casteljau_times k d (λ i. f (suc i)))
      ∙ ring (k ∷ p ∷ r ∷ a ∷ b ∷ w ∷ []) (search sides depth 20) refl

-- ---- sizes, for weights that are naturals: at most (p + r)^d times the largest coefficient
pub mix_size : (p r : ℕ) (a b : ℤ) {B : ℕ} → nat_abs a ≤ B → nat_abs b ≤ B → nat_abs (pos r *ℤ a +ℤ pos p *ℤ b) ≤ (p + r) * B
mix_size p r a b {B} h k = le_trans (abs_add (pos r *ℤ a) (pos p *ℤ b))
    (rw (abs_mul (pos r) a, abs_mul (pos p) b, add_comm p r, add-mul) (add-le-add (mul-le-mul_left r h) (mul-le-mul_left p k)))

pub casteljau_size : (p r B d : ℕ) (f : ℕ → ℤ) → ((k : ℕ) → k ≤ d → nat_abs (f k) ≤ B) → nat_abs (casteljau (pos p) (pos r) d f) ≤ (p + r) ^ d * B
unfolding casteljau
casteljau_size p r B zero f h = rw (pow-zero, one-mul) (h zero zero-le)
casteljau_size p r B (suc d) f h = rw (pow-succ', mul_assoc)
    (mix_size p r (casteljau (pos p) (pos r) d f) (casteljau (pos p) (pos r) d (λ k. f (suc k)))
    (casteljau_size p r B d f (λ k l. h k (one_on l))) (casteljau_size p r B d (λ k. f (suc k)) (λ k l. h (suc k) (suc-le-suc l))))
