-- How far numbers agree: one number on, in two parts, and never farther than before.
use mathlib.Core.Path.{◌≡◌, refl, sym, ◌∙◌, ap}
use mathlib.Core.Bool.{Bool, true, false, ◌||◌}
use mathlib.Core.List.{List, [], ◌∷◌, ◌++◌}
use Prim.Native.Nat.{ℕ, suc, ◌+◌, ◌≤◌, ◌<◌}
use native.Mathlib.Nat.{le_refl, le_trans, add-zero}
use native.Mathlib.Numerals.{add-one, add-two, add-three}
use native.Mathlib.Omega.{arith}
use borrow.Author.Tests.{le-leb, lt-leb, leb-false}
use lib.Dec.{leb}
use lib.ListN.{length}
use lib.IntN.{ℤ}
use Rattle.integers.specs.Entry.{entry}
use Rattle.integers.specs.Equal.{equal}
use Rattle.integers.proofs.Both.{both_true}
use Rattle.band_comparing.specs.Inside.{reach_number, reach_of, are_there}

-- ---- one number
module _ (g : List ℤ) (r i : ℕ) (x : ℤ) where
  pub number_past : r ≤ i → reach_number g r i x ≡ r
  unfolding reach_number
  number_past h = rw (reach_number, le-leb r i h)

  pub number_same : equal (entry g i) x ≡ true → reach_number g r i x ≡ r
  unfolding reach_number
  number_same e = rw (reach_number, e) (go (leb r i))
    where
      go : (b : Bool) → ◌≡◌ {A = ℕ} (elim (b || true) [ true ↦ r | false ↦ i ]) r
      go true = refl
      go false = refl

  pub number_other : i < r → equal (entry g i) x ≡ false → reach_number g r i x ≡ i
  unfolding reach_number
  number_other h e = rw (reach_number, lt-leb r i h, e)

  number_less : reach_number g r i x ≤ r
  unfolding reach_number
  number_less = go (leb r i) refl (equal (entry g i) x)
    where
      go : (b : Bool) → leb r i ≡ b → (c : Bool) → elim (b || c) [ true ↦ r | false ↦ i ] ≤ r
      go true e c = le_refl r
      go false e true = le_refl r
      go false e false = omega (arith, leb-false r i e)

  -- no more than n before, no more than n after
  pub number_under : {n k : ℕ} → k ≡ reach_number g r i x → r ≤ n → k ≤ n
  number_under e h = rw e (le_trans number_less h)

-- ---- many
pub reach_less : (g : List ℤ) (r i : ℕ) (xs : List ℤ) → reach_of g r i xs ≤ r
unfolding reach_of
reach_less g r i [] = le_refl r
reach_less g r i (x ∷ xs) = le_trans (reach_less g (reach_number g r i x) (suc i) xs) (number_less g r i x)

pub reach_parts : (g : List ℤ) (r i : ℕ) (xs ys : List ℤ) → reach_of g r i (xs ++ ys) ≡ reach_of g (reach_of g r i xs) (i + length xs) ys
unfolding reach_of
reach_parts g r i [] ys = ap (λ n. reach_of g r n ys) (sym (add-zero i))
reach_parts g r i (x ∷ xs) ys =
    reach_parts g (reach_number g r i x) (suc i) xs ys
    ∙ ap (λ n. reach_of g (reach_of g (reach_number g r i x) (suc i) xs) n ys) {x = suc i + length xs} {y = i + suc (length xs)} (omega arith)

-- ---- four numbers
module _ (g : List ℤ) (r at : ℕ) (a b c d : ℤ) where
  pub reach_four : (r₁ r₂ r₃ r₄ : ℕ) → r₁ ≡ reach_number g r at a → r₂ ≡ reach_number g r₁ (at + 1) b → r₃ ≡ reach_number g r₂ (at + 2) c
      → r₄ ≡ reach_number g r₃ (at + 3) d → r₄ ≡ reach_of g r at (a ∷ b ∷ c ∷ d ∷ [])
  unfolding reach_of
  reach_four r₁ r₂ r₃ r₄ e₁ e₂ e₃ e₄ =
      e₄ ∙ ap (λ q. reach_number g q (at + 3) d) (e₃ ∙ ap (λ q. reach_number g q (at + 2) c) (e₂ ∙ ap (λ q. reach_number g q (at + 1) b) e₁))
      ∙ rw (add-one, add-two, add-three)

  pub reach_there : are_there g at a b c d ≡ true → r ≡ reach_of g r at (a ∷ b ∷ c ∷ d ∷ [])
  unfolding are_there
  reach_there e =
      let p = both_true (equal (entry g at) a) _ e in
      let q = both_true (equal (entry g (at + 1)) b) _ p.1 in
      let s = both_true (equal (entry g (at + 2)) c) (equal (entry g (at + 3)) d) q.1 in
      reach_four r r r r (sym (number_same g r at a p.0)) (sym (number_same g r (at + 1) b q.0))
      (sym (number_same g r (at + 2) c s.0)) (sym (number_same g r (at + 3) d s.1))

-- ---- whether they are there, test by test
module _ (g : List ℤ) (at : ℕ) (a b c d : ℤ) where
  pub there_not : equal (entry g at) a ≡ false → are_there g at a b c d ≡ false
  unfolding are_there
  there_not e = rw (are_there, e)

  module _ (ea : equal (entry g at) a ≡ true) where
    pub there_not_second : equal (entry g (at + 1)) b ≡ false → are_there g at a b c d ≡ false
    unfolding are_there
    there_not_second e = rw (are_there, ea, e)

    module _ (eb : equal (entry g (at + 1)) b ≡ true) where
      pub there_not_third : equal (entry g (at + 2)) c ≡ false → are_there g at a b c d ≡ false
      unfolding are_there
      there_not_third e = rw (are_there, ea, eb, e)

      pub there_last : equal (entry g (at + 2)) c ≡ true → are_there g at a b c d ≡ equal (entry g (at + 3)) d
      unfolding are_there
      there_last e = rw (are_there, ea, eb, e)
