-- The order on ℤ, `lib.Signed`'s `◌≤ℤ◌` and `◌<ℤ◌`. An order is a difference that is not negative (`gap`, `le_of_gap`); sums and products of what is
-- not negative are not negative (`◌+₀◌`, `◌×₀◌`); so an order whose difference is, by `ring`, a combination of known facts is proved by that
-- combination, its certificate:
--     weighted : {r p l h m k : ℤ} → NonNeg r → NonNeg p → l ≤ℤ h → m ≤ℤ k → (r *ℤ l +ℤ p *ℤ m) ≤ℤ (r *ℤ h +ℤ p *ℤ k)
--     weighted {r} {p} {l} {h} {m} {k} hr hp u v = le_by (r ∷ p ∷ l ∷ h ∷ m ∷ k ∷ []) (hr ×₀ gap u +₀ hp ×₀ gap v) (search sides depth 40) refl
-- `le_by` proves ≤, `lt_by` <, and `clash_by` a contradiction (the combination comes to −1).
use mathlib.Core.Path.{◌≡◌, refl, sym, ◌∙◌, ap, subst}
use mathlib.Core.Logic.{◌⊎◌, inl, inr, ⊎_elim}
use mathlib.Core.List.{List, [], ◌∷◌}
use mathlib.Core.Bool.{Bool, true, false, not, cond}
use Prim.Native.Nat.{ℕ, zero, suc, ◌+◌, ◌-◌, ◌≤◌, ◌<◌, zero-le, suc-le-suc}
use native.Mathlib.Nat.{le_of_suc-le-suc, not-suc-le-zero}
use native.Mathlib.Omega.{arith}
use lib.Dec.{T, ltb, ltb→lt, lt→ltb, nltb→le, nleb→lt, leb→le, le→leb}
use lib.IntN.{ℤ, pos, negsuc, suc_ℤ, neg_ℤ, sub_ℕ, ◌+ℤ◌, ◌-ℤ◌, ◌*ℤ◌, pow, one, +ℤ_one, +ℤ_idr, +ℤ_invr, *ℤ-zero}
use lib.Signed.{le_z, lt_z, non_neg, ◌≤ℤ◌, ◌<ℤ◌, le_z_yes, lt_z_yes}
use Rattle.integers.proofs.Polynomial.{num}
use Rattle.integers.proofs.Ring.{Sides, residue, ring, sides}

-- ---- not negative
pub record NonNeg (z : ℤ) : Type 0 where
  pub holds : T (non_neg z)

pub natural : (n : ℕ) → NonNeg (pos n)
natural n = record { holds = tt }

infixl 6 ◌+₀◌
infixl 7 ◌×₀◌
pub ◌+₀◌ : {a b : ℤ} → NonNeg a → NonNeg b → NonNeg (a +ℤ b)
◌+₀◌ {a = pos m} {b = pos n} h k = record { holds = tt }
◌+₀◌ {a = pos m} {b = negsuc n} h k = absurd k.holds
◌+₀◌ {a = negsuc m} {b} h k = absurd h.holds

pub ◌×₀◌ : {a b : ℤ} → NonNeg a → NonNeg b → NonNeg (a *ℤ b)
◌×₀◌ {a = pos m} {b = pos n} h k = record { holds = tt }
◌×₀◌ {a = pos m} {b = negsuc n} h k = absurd k.holds
◌×₀◌ {a = negsuc m} {b} h k = absurd h.holds

pub square : (a : ℤ) → NonNeg (a *ℤ a)
square (pos a) = record { holds = tt }
square (negsuc a) = record { holds = tt }

-- not negative by its shape: `search nonnegative`
pub ruleset nonnegative = (◌+₀◌, ◌×₀◌, square, natural)

pub nonneg-≡ : {a b : ℤ} → NonNeg a → b ≡ a → NonNeg b
nonneg-≡ h e = subst NonNeg (sym e) h

pub nonneg_by : (ρ : List ℤ) {a x : ℤ} → NonNeg x → (s : Sides ρ a x) → residue s ≡ num (pos 0) → NonNeg a
nonneg_by ρ h s e = nonneg-≡ h (ring ρ s e)

-- a number that is not negative is a natural
pub nonneg_natural : {z : ℤ} → NonNeg z → (n : ℕ) × (z ≡ pos n)
nonneg_natural {z = pos n} h = (n, refl)
nonneg_natural {z = negsuc n} h = absurd h.holds

-- ---- an order is a difference that is not negative
pub cond_cases : (c : Bool) (x y : ℤ) (X : ℤ → Type 0) → (T c → X x) → (T (not c) → X y) → X (cond c x y)
cond_cases true x y X f g = f tt
cond_cases false x y X f g = g tt

pub sub_nonneg : (a b : ℕ) → b ≤ a → T (non_neg (sub_ℕ a b))
sub_nonneg a b h = cond_cases (ltb a b) (negsuc (b - suc a)) (pos (a - b)) (λ z. T (non_neg z)) (λ t. absurd (clash (ltb→lt a b t))) (λ t. tt)
  where
    clash : a < b → ⊥
    clash k = omega arith

pub nonneg_sub : (a b : ℕ) → T (non_neg (sub_ℕ a b)) → b ≤ a
nonneg_sub a b = cond_cases (ltb a b) (negsuc (b - suc a)) (pos (a - b)) (λ z. T (non_neg z) → b ≤ a) (λ t n. absurd n) (λ t n. nltb→le a b t)

le_difference : (a b : ℤ) → T (le_z a b) → T (non_neg (b -ℤ a))
le_difference (pos zero) (pos b) t = tt
le_difference (pos (suc a)) (pos b) t = sub_nonneg b (suc a) (leb→le (suc a) b t)
le_difference (pos a) (negsuc b) t = absurd t
le_difference (negsuc a) (pos b) t = tt
le_difference (negsuc a) (negsuc b) t = sub_nonneg (suc a) (suc b) (suc-le-suc (leb→le b a t))

difference_le : (a b : ℤ) → T (non_neg (b -ℤ a)) → T (le_z a b)
difference_le (pos zero) (pos b) t = le→leb zero b zero-le
difference_le (pos (suc a)) (pos b) t = le→leb (suc a) b (nonneg_sub b (suc a) t)
difference_le (pos zero) (negsuc b) t = absurd (not-suc-le-zero (nonneg_sub zero (suc b) t))
difference_le (pos (suc a)) (negsuc b) t = t
difference_le (negsuc a) (pos b) t = tt
difference_le (negsuc a) (negsuc b) t = le→leb b a (le_of_suc-le-suc (nonneg_sub (suc a) (suc b) t))

pub gap : {a b : ℤ} → a ≤ℤ b → NonNeg (b -ℤ a)
gap {a} {b} h = record { holds = le_difference a b h.le }

pub le_of_gap : {a b : ℤ} → NonNeg (b -ℤ a) → a ≤ℤ b
le_of_gap {a} {b} h = le_z_yes (difference_le a b h.holds)

pub nonneg : {z : ℤ} → pos 0 ≤ℤ z → NonNeg z
nonneg {z} h = nonneg-≡ (gap h) (sym (+ℤ_idr z))

-- ---- less than: the difference less one is not negative
suc_le : (a b : ℤ) → T (lt_z a b) → T (le_z (suc_ℤ a) b)
suc_le (pos a) (pos b) t = t
suc_le (pos a) (negsuc b) t = t
suc_le (negsuc zero) (pos b) t = le→leb zero b zero-le
suc_le (negsuc (suc a)) (pos b) t = tt
suc_le (negsuc zero) (negsuc b) t = absurd (not-suc-le-zero (ltb→lt b zero t))
suc_le (negsuc (suc a)) (negsuc b) t = le→leb b a (le_of_suc-le-suc (ltb→lt b (suc a) t))

lt_of_suc_le : (a b : ℤ) → T (le_z (suc_ℤ a) b) → T (lt_z a b)
lt_of_suc_le (pos a) (pos b) t = t
lt_of_suc_le (pos a) (negsuc b) t = t
lt_of_suc_le (negsuc a) (pos b) t = tt
lt_of_suc_le (negsuc zero) (negsuc b) t = absurd t
lt_of_suc_le (negsuc (suc a)) (negsuc b) t = lt→ltb b (suc a) (suc-le-suc (leb→le b a t))

less_one : (a b : ℤ) → b -ℤ a -ℤ pos 1 ≡ b -ℤ suc_ℤ a
less_one a b = ring (a ∷ b ∷ []) {b = b -ℤ (a +ℤ pos 1)} (search sides depth 20) refl ∙ ap (λ z. b -ℤ z) (+ℤ_one a)

pub gap< : {a b : ℤ} → a <ℤ b → NonNeg (b -ℤ a -ℤ pos 1)
gap< {a} {b} h = nonneg-≡ (gap {a = suc_ℤ a} (le_z_yes (suc_le a b h.lt))) (less_one a b)

pub lt_of_gap : {a b : ℤ} → NonNeg (b -ℤ a -ℤ pos 1) → a <ℤ b
lt_of_gap {a} {b} h = lt_z_yes (lt_of_suc_le a b (difference_le (suc_ℤ a) b (nonneg-≡ h (sym (less_one a b))).holds))

-- ---- certificates
pub le_by : (ρ : List ℤ) {a b x : ℤ} → NonNeg x → (s : Sides ρ (b -ℤ a) x) → residue s ≡ num (pos 0) → a ≤ℤ b
le_by ρ h s e = le_of_gap (nonneg_by ρ h s e)

pub lt_by : (ρ : List ℤ) {a b x : ℤ} → NonNeg x → (s : Sides ρ (b -ℤ a -ℤ pos 1) x) → residue s ≡ num (pos 0) → a <ℤ b
lt_by ρ h s e = lt_of_gap (nonneg_by ρ h s e)

pub clash_by : (ρ : List ℤ) {x : ℤ} → NonNeg x → (s : Sides ρ (negsuc 0) x) → residue s ≡ num (pos 0) → ⊥
clash_by ρ h s e = (nonneg_by ρ h s e).holds

-- an equation in a certificate: any multiple of the difference of its sides is 0
pub balance : (k : ℤ) {x y : ℤ} → x ≡ y → NonNeg (k *ℤ (x -ℤ y))
balance k {x} {y} e = nonneg-≡ (natural 0) (ap (λ z. k *ℤ (z -ℤ y)) e ∙ ap (λ z. k *ℤ z) (+ℤ_invr y) ∙ *ℤ-zero k)

-- ---- naturals
pub pos_le : {m n : ℕ} → m ≤ n → pos m ≤ℤ pos n
pos_le {m} {n} h = le_z_yes (le→leb m n h)

pub le_pos : {m n : ℕ} → pos m ≤ℤ pos n → m ≤ n
le_pos {m} {n} h = leb→le m n h.le

pub pos_lt : {m n : ℕ} → m < n → pos m <ℤ pos n
pos_lt {m} {n} h = lt_z_yes (lt→ltb m n h)

pub lt_pos : {m n : ℕ} → pos m <ℤ pos n → m < n
lt_pos {m} {n} h = ltb→lt m n h.lt

-- ---- laws
pub ≤ℤ_trans : {a b c : ℤ} → a ≤ℤ b → b ≤ℤ c → a ≤ℤ c
≤ℤ_trans {a} {b} {c} h k = le_by (a ∷ b ∷ c ∷ []) (gap h +₀ gap k) (search sides depth 20) refl

opposite : {d : ℤ} → NonNeg d → NonNeg (neg_ℤ d) → d ≡ pos 0
opposite {d = pos zero} h k = refl
opposite {d = pos (suc n)} h k = absurd k.holds
opposite {d = negsuc n} h k = absurd h.holds

pub ≤ℤ_antisymm : {a b : ℤ} → a ≤ℤ b → b ≤ℤ a → a ≡ b
≤ℤ_antisymm {a} {b} h k =
    ring (a ∷ b ∷ []) {b = b -ℤ (b -ℤ a)} (search sides depth 20) refl
    ∙ ap (λ z. b -ℤ z) (opposite (gap h) (nonneg_by (a ∷ b ∷ []) (gap k) (search sides depth 20) refl))
    ∙ ring (b ∷ []) (search sides depth 20) refl

pub lt_le : {a b : ℤ} → a <ℤ b → a ≤ℤ b
lt_le {a} {b} h = le_by (a ∷ b ∷ []) (gap< h +₀ natural 1) (search sides depth 20) refl

not_le : (a b : ℤ) → T (not (le_z a b)) → T (lt_z b a)
not_le (pos a) (pos b) t = lt→ltb b a (nleb→lt a b t)
not_le (pos a) (negsuc b) t = tt
not_le (negsuc a) (pos b) t = absurd t
not_le (negsuc a) (negsuc b) t = lt→ltb a b (nleb→lt b a t)

pub le_z_no : {a b : ℤ} → T (not (le_z a b)) → b <ℤ a
le_z_no {a} {b} t = lt_z_yes (not_le a b t)

pub le_or_lt : (a b : ℤ) → (a ≤ℤ b) ⊎ (b <ℤ a)
le_or_lt a b = go (le_z a b) (λ t. t) (λ t. t)
  where
    go : (c : Bool) → (T c → T (le_z a b)) → (T (not c) → T (not (le_z a b))) → (a ≤ℤ b) ⊎ (b <ℤ a)
    go true f g = inl (le_z_yes (f tt))
    go false f g = inr (le_z_no (g tt))

pub lt_or_ge : (m n : ℕ) → (m < n) ⊎ (n ≤ m)
lt_or_ge m n = ⊎_elim (λ h. inr (le_pos h)) (λ h. inl (lt_pos h)) (le_or_lt (pos n) (pos m))

pub +ℤ_mono : {a b c d : ℤ} → a ≤ℤ b → c ≤ℤ d → (a +ℤ c) ≤ℤ (b +ℤ d)
+ℤ_mono {a} {b} {c} {d} h k = le_by (a ∷ b ∷ c ∷ d ∷ []) (gap h +₀ gap k) (search sides depth 20) refl

pub times_positive : {x y : ℤ} → pos 0 <ℤ x → pos 0 <ℤ y → pos 0 <ℤ (x *ℤ y)
times_positive {x} {y} h k = lt_by (x ∷ y ∷ []) (gap< h ×₀ gap< k +₀ gap< h +₀ gap< k) (search sides depth 20) refl

pub pow_nonneg : (q n : ℕ) → NonNeg (pow (pos q) n)
unfolding pow one
pow_nonneg q zero = natural 1
pow_nonneg q (suc n) = pow_nonneg q n ×₀ natural q

pub pow_positive : {k : ℤ} → pos 0 <ℤ k → (n : ℕ) → pos 0 <ℤ pow k n
unfolding pow one
pow_positive hk zero = lt_z_yes tt
pow_positive hk (suc n) = times_positive (pow_positive hk n) hk

-- a positive factor cancels
pub *ℤ_cancel : {a b k : ℤ} → pos 0 <ℤ k → (k *ℤ a) ≤ℤ (k *ℤ b) → a ≤ℤ b
*ℤ_cancel {a} {b} {k} hk h = ⊎_elim (λ l. l) (λ l. absurd (clash_by (a ∷ b ∷ k ∷ [])
    (gap h +₀ gap< hk +₀ (gap< hk +₀ natural 1) ×₀ gap< l) (search sides depth 20) refl)) (le_or_lt a b)

below_zero : (n : ℕ) → NonNeg (pos 0 -ℤ negsuc n -ℤ pos 1)
below_zero n = gap< {a = negsuc n} {b = pos 0} (lt_z_yes tt)

pub nonneg_cancel : {k x : ℤ} → pos 0 <ℤ k → NonNeg (k *ℤ x) → NonNeg x
nonneg_cancel {k} {x = pos n} hk h = natural n
nonneg_cancel {k} {x = negsuc n} hk h = absurd (go (negsuc n) (below_zero n) h)
  where
    go : (x : ℤ) → NonNeg (pos 0 -ℤ x -ℤ pos 1) → NonNeg (k *ℤ x) → ⊥
    go x u v = clash_by (x ∷ k ∷ []) ((gap< hk +₀ natural 1) ×₀ u +₀ v +₀ gap< hk) (search sides depth 20) refl

-- whole numbers: (k + 1) · d + k is not negative only if d is not
pub nonneg_rounded : (k : ℕ) {d : ℤ} → NonNeg (pos (k + 1) *ℤ d +ℤ pos k) → NonNeg d
nonneg_rounded k {d = pos n} h = natural n
nonneg_rounded k {d = negsuc n} h = absurd (go (negsuc n) (below_zero n) h)
  where
    go : (d : ℤ) → NonNeg (pos 0 -ℤ d -ℤ pos 1) → NonNeg (pos (k + 1) *ℤ d +ℤ pos k) → ⊥
    go d u v = clash_by (d ∷ pos k ∷ []) (natural (k + 1) ×₀ u +₀ v) (search sides depth 20) refl
