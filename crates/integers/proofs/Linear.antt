-- An order of ℤ handed to `omega`, which reads naturals: each integer is a difference of two naturals.
--     step : (a b c : ℤ) → a ≤ℤ b → b <ℤ c → (a +ℤ pos 1) ≤ℤ c
--     step a b c h k =
--         let ρ = a ∷ b ∷ c ∷ [] in
--         le_from_ℕ ρ (search sides depth 20) (omega (arith, le_to_ℕ ρ (search sides depth 20) h, lt_to_ℕ ρ (search sides depth 20) k))
use mathlib.Core.Path.{◌≡◌, refl, sym, ◌∙◌, ap, ap₂}
use mathlib.Core.List.{List, [], ◌∷◌}
use Prim.Native.Nat.{ℕ, suc, ◌+◌, ◌*◌, ◌≤◌, ◌<◌}
use lib.IntN.{ℤ, pos, negsuc, neg_ℤ, ◌+ℤ◌, ◌-ℤ◌, ◌*ℤ◌, pow, +ℤ_idl, +ℤ_idr}
use lib.Signed.{◌≤ℤ◌, ◌<ℤ◌}
use Rattle.integers.specs.Entry.{entry}
use Rattle.integers.proofs.Polynomial.{Expr, var, lit, ◌⊕◌, ◌⊖◌, ◌⊗◌, neg, power, value}
use Rattle.integers.proofs.Ring.{Sides, ring, sides}
use Rattle.integers.proofs.Order.{gap, gap<, le_of_gap, lt_of_gap, nonneg-≡, pos_le, le_pos, lt_pos}

-- ---- x is up x − down x
abbrev pub up : ℤ → ℕ
up (pos n) = n
up (negsuc n) = 0

abbrev pub down : ℤ → ℕ
down (pos n) = 0
down (negsuc n) = suc n

apart : (x : ℤ) → x ≡ pos (up x) -ℤ pos (down x)
apart (pos n) = sym (+ℤ_idr (pos n))
apart (negsuc n) = sym (+ℤ_idl (negsuc n))

-- ---- an expression as a difference: what is added, and what is taken away
pub record Difference : Type 0 where
  pub plus : ℕ
  pub minus : ℕ

abbrev pub difference : Expr → List ℤ → Difference
difference (var i) ρ = record { plus = up (entry ρ i); minus = down (entry ρ i) }
difference (lit a) ρ = record { plus = up a; minus = down a }
difference (a ⊕ b) ρ =
    let x = difference a ρ in
    let y = difference b ρ in
    record { plus = x.plus + y.plus; minus = x.minus + y.minus }
difference (a ⊖ b) ρ =
    let x = difference a ρ in
    let y = difference b ρ in
    record { plus = x.plus + y.minus; minus = x.minus + y.plus }
difference (a ⊗ b) ρ =
    let x = difference a ρ in
    let y = difference b ρ in
    record { plus = x.plus * y.plus + x.minus * y.minus; minus = x.plus * y.minus + x.minus * y.plus }
difference (neg a) ρ = record { plus = (difference a ρ).minus; minus = (difference a ρ).plus }
difference (power a n) ρ = record { plus = up (pow (value a ρ) n); minus = down (pow (value a ρ) n) }

-- the integer that a difference stands for, and its sums and products
abbrev of : Difference → ℤ
of d = pos d.plus -ℤ pos d.minus

module _ (a b c d : ℕ) where
  ρ : List ℤ
  ρ = pos a ∷ pos b ∷ pos c ∷ pos d ∷ []

  of_add : (pos a -ℤ pos b) +ℤ (pos c -ℤ pos d) ≡ pos (a + c) -ℤ pos (b + d)
  unfolding ρ
  of_add = ring ρ (search sides depth 20) refl

  of_sub : (pos a -ℤ pos b) -ℤ (pos c -ℤ pos d) ≡ pos (a + d) -ℤ pos (b + c)
  unfolding ρ
  of_sub = ring ρ (search sides depth 20) refl

  of_mul : (pos a -ℤ pos b) *ℤ (pos c -ℤ pos d) ≡ pos (a * c + b * d) -ℤ pos (a * d + b * c)
  unfolding ρ
  of_mul = ring ρ (search sides depth 20) refl

  of_cross : (pos a -ℤ pos b) -ℤ (pos c -ℤ pos d) ≡ pos (a + d) -ℤ pos (c + b)
  unfolding ρ
  of_cross = ring ρ (search sides depth 20) refl

of_neg : (a b : ℕ) → neg_ℤ (pos a -ℤ pos b) ≡ pos b -ℤ pos a
of_neg a b = ring (pos a ∷ pos b ∷ []) (search sides depth 20) refl

is_difference : (e : Expr) (ρ : List ℤ) → value e ρ ≡ of (difference e ρ)
is_difference (var i) ρ = apart (entry ρ i)
is_difference (lit a) ρ = apart a
is_difference (a ⊕ b) ρ =
    let x = difference a ρ in
    let y = difference b ρ in
    ap₂ ◌+ℤ◌ (is_difference a ρ) (is_difference b ρ) ∙ of_add x.plus x.minus y.plus y.minus
is_difference (a ⊖ b) ρ =
    let x = difference a ρ in
    let y = difference b ρ in
    ap₂ ◌-ℤ◌ (is_difference a ρ) (is_difference b ρ) ∙ of_sub x.plus x.minus y.plus y.minus
is_difference (a ⊗ b) ρ =
    let x = difference a ρ in
    let y = difference b ρ in
    ap₂ ◌*ℤ◌ (is_difference a ρ) (is_difference b ρ) ∙ of_mul x.plus x.minus y.plus y.minus
is_difference (neg a) ρ = ap neg_ℤ (is_difference a ρ) ∙ of_neg (difference a ρ).plus (difference a ρ).minus
is_difference (power a n) ρ = apart (pow (value a ρ) n)

-- ---- the two sides of an order, as naturals
abbrev pub lower : {ρ : List ℤ} {a b : ℤ} → Sides ρ a b → ℕ
lower {ρ} s = (difference s.left.expr ρ).plus + (difference s.right.expr ρ).minus

abbrev pub upper : {ρ : List ℤ} {a b : ℤ} → Sides ρ a b → ℕ
upper {ρ} s = (difference s.right.expr ρ).plus + (difference s.left.expr ρ).minus

across : {ρ : List ℤ} {a b : ℤ} (s : Sides ρ a b) → b -ℤ a ≡ pos (upper s) -ℤ pos (lower s)
across {ρ} s =
    let x = difference s.left.expr ρ in
    let y = difference s.right.expr ρ in
    ap₂ ◌-ℤ◌ (sym s.right.is ∙ is_difference s.right.expr ρ) (sym s.left.is ∙ is_difference s.left.expr ρ)
    ∙ of_cross y.plus y.minus x.plus x.minus

pub le_to_ℕ : (ρ : List ℤ) {a b : ℤ} (s : Sides ρ a b) → a ≤ℤ b → lower s ≤ upper s
le_to_ℕ ρ s h = le_pos (le_of_gap (nonneg-≡ (gap h) (sym (across s))))

pub le_from_ℕ : (ρ : List ℤ) {a b : ℤ} (s : Sides ρ a b) → lower s ≤ upper s → a ≤ℤ b
le_from_ℕ ρ s h = le_of_gap (nonneg-≡ (gap (pos_le h)) (across s))

pub lt_to_ℕ : (ρ : List ℤ) {a b : ℤ} (s : Sides ρ a b) → a <ℤ b → lower s < upper s
lt_to_ℕ ρ s h = lt_pos (lt_of_gap (nonneg-≡ (gap< h) (ap (λ z. z -ℤ pos 1) (sym (across s)))))
