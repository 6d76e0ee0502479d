-- `ring` proves an equation of integers that follows from the laws of a commutative ring. `search sides` reads the two sides as expressions
-- over a list of atoms, and their normal forms are computed and compared.
--     difference-of-squares : (a b : ℤ) → (a +ℤ b) *ℤ (a -ℤ b) ≡ a *ℤ a -ℤ b *ℤ b
--     difference-of-squares a b = ring (a ∷ b ∷ []) (search sides depth 40 fits 9999) refl
-- It reads sums, differences, products, negation, powers by a numeral, numerals, and sums, products and successors of naturals under `pos`. The atoms
-- are what the sides are made of: any integers, `to_z w64 x`, or `pos n` and `pow x n` for a variable n too. A definition that computes to such a term
-- is read through. Where an equation is refused, put `?` for `refl`: the goal shows the normal form of the difference, which is not 0.
use mathlib.Core.Path.{◌≡◌, refl, sym, ◌∙◌, ap, ap₂}
use mathlib.Core.Bool.{true}
use mathlib.Core.List.{List, ◌∷◌}
use Prim.Native.Nat.{ℕ, zero, suc, ◌+◌, ◌*◌}
use lib.Dec.{leb}
use lib.IntN.{ℤ, pos, negsuc, neg_ℤ, ◌+ℤ◌, ◌*ℤ◌, pow, +ℤ_one}
use Rattle.integers.proofs.Polynomial.{Expr, var, lit, ◌⊕◌, ◌⊖◌, ◌⊗◌, neg, power, Normal, num, value, normal, same_value}
use Rattle.integers.specs.Entry.{entry}

-- t stands in the list, at a place
pub record Atom (ρ : List ℤ) (t : ℤ) : Type 0 where
  pub place : ℕ
  pub there : entry ρ place ≡ t

-- t is an expression's value
pub record Reads (ρ : List ℤ) (t : ℤ) : Type 0 where
  pub expr : Expr
  pub is : value expr ρ ≡ t

abbrev pub atom_first : {t : ℤ} {ρ : List ℤ} → Atom (t ∷ ρ) t
atom_first = record { place = zero; there = refl }

abbrev pub atom_next : {s t : ℤ} {ρ : List ℤ} → Atom ρ t → Atom (s ∷ ρ) t
atom_next v = record { place = suc v.place; there = v.there }

module _ {ρ : List ℤ} where
  abbrev pub read_atom : {t : ℤ} → Atom ρ t → Reads ρ t
  read_atom v = record { expr = var v.place; is = v.there }

  -- a numeral: the test computes, and `refl` proves it
  abbrev pub read_pos : {n : ℕ} → leb 0 n ≡ true → Reads ρ (pos n)
  read_pos {n} h = record { expr = lit (pos n); is = refl }

  abbrev pub read_negsuc : {n : ℕ} → leb 0 n ≡ true → Reads ρ (negsuc n)
  read_negsuc {n} h = record { expr = lit (negsuc n); is = refl }

  abbrev pub read_add : {a b : ℤ} → Reads ρ a → Reads ρ b → Reads ρ (a +ℤ b)
  read_add x y = record { expr = x.expr ⊕ y.expr; is = ap₂ ◌+ℤ◌ x.is y.is }

  abbrev pub read_mul : {a b : ℤ} → Reads ρ a → Reads ρ b → Reads ρ (a *ℤ b)
  read_mul x y = record { expr = x.expr ⊗ y.expr; is = ap₂ ◌*ℤ◌ x.is y.is }

  abbrev pub read_neg : {a : ℤ} → Reads ρ a → Reads ρ (neg_ℤ a)
  read_neg x = record { expr = neg x.expr; is = ap neg_ℤ x.is }

  -- a power by a numeral; any other is an atom
  abbrev pub read_power : {a : ℤ} (n : ℕ) → leb 0 n ≡ true → Reads ρ a → Reads ρ (pow a n)
  read_power n h x = record { expr = power x.expr n; is = ap (λ (z : ℤ). pow z n) x.is }

  abbrev pub read_add_ℕ : {m n : ℕ} → Reads ρ (pos m) → Reads ρ (pos n) → Reads ρ (pos (m + n))
  read_add_ℕ x y = record { expr = x.expr ⊕ y.expr; is = ap₂ ◌+ℤ◌ x.is y.is }

  abbrev pub read_mul_ℕ : {m n : ℕ} → Reads ρ (pos m) → Reads ρ (pos n) → Reads ρ (pos (m * n))
  read_mul_ℕ x y = record { expr = x.expr ⊗ y.expr; is = ap₂ ◌*ℤ◌ x.is y.is }

  abbrev pub read_suc : {n : ℕ} → Reads ρ (pos n) → Reads ρ (pos (suc n))
  read_suc {n} x = record { expr = x.expr ⊕ lit (pos 1); is = ap (λ (z : ℤ). z +ℤ pos 1) x.is ∙ +ℤ_one (pos n) }

-- the two sides of an equation
pub record Sides (ρ : List ℤ) (a b : ℤ) : Type 0 where
  pub left : Reads ρ a
  pub right : Reads ρ b

abbrev pub read_sides : {ρ : List ℤ} {a b : ℤ} → Reads ρ a → Reads ρ b → Sides ρ a b
read_sides x y = record { left = x; right = y }

pub ruleset sides = (read_sides, read_add, read_mul, read_neg, read_power, read_add_ℕ, read_mul_ℕ, read_pos, read_negsuc, read_suc, read_atom, atom_first, atom_next)

-- the normal form of their difference
abbrev pub residue : {ρ : List ℤ} {a b : ℤ} → Sides ρ a b → Normal
residue s = normal (s.left.expr ⊖ s.right.expr)

pub ring : (ρ : List ℤ) {a b : ℤ} (s : Sides ρ a b) → residue s ≡ num (pos 0) → a ≡ b
ring ρ s h = sym s.left.is ∙ same_value ρ s.left.expr s.right.expr h ∙ s.right.is
