-- What each way through the functions that put numbers leaves.
use mathlib.Core.Path.{◌≡◌, sym, ap, ◌∙◌, subst}
use mathlib.Core.Bool.{Bool, true, false}
use mathlib.Core.List.{List, [], ◌∷◌}
use Prim.Native.Nat.{ℕ}
use native.Mathlib.Omega.{arith}
use lib.IntN.{ℤ, pos, nat_abs}
use lib.Signed.{lt_z}
use mir.Syntax.{w32}
use mir.Val.{SFits}
use mir.Facts.{to_z-of_z}
use Rattle.integers.proofs.Ranges.{stored}
use Rattle.write_numbers.specs.Appends.{Appended, PutWithin}
use Rattle.write_numbers.proofs.Appends.{within, word_within, within_both}
use Rattle.write_numbers.specs.Digits.{digits}
use Rattle.write_numbers.specs.Decimals.{decimal, spaced, spaced_natural}

-- ---- a number: its absolute value is n
module _ (d : List ℕ) (i : ℕ) (z : ℤ) (n : ℕ) (m : n ≡ nat_abs (stored w32 z)) (h : SFits w32 z) where
  size : n ≡ nat_abs z
  size = m ∙ ap nat_abs (to_z-of_z h)

  sign : (b : Bool) → lt_z (stored w32 z) (pos 0) ≡ b → lt_z z (pos 0) ≡ b
  sign b e = ap (λ (x : ℤ). lt_z x (pos 0)) (sym (to_z-of_z h)) ∙ e

  pub number_plus : (o : List ℕ) (j : ℕ) → lt_z (stored w32 z) (pos 0) ≡ false → PutWithin d i 10 (digits 10 n) o j → PutWithin d i 11 (decimal z) o j
  unfolding decimal
  number_plus o j t a =
      within (subst (λ (xs : List ℕ). Appended d i xs o j) (ap (digits 10) size ∙ simp (sign false t)) a.put) (omega (arith, a.small))

  pub number_minus : (o : List ℕ) (j : ℕ) → lt_z (stored w32 z) (pos 0) ≡ true → Appended d i (45 ∷ []) o j → (u : List ℕ) (k : ℕ)
      → PutWithin o j 10 (digits 10 n) u k → PutWithin d i 11 (decimal z) u k
  unfolding decimal
  number_minus o j t a u k b =
      subst (λ (xs : List ℕ). PutWithin d i 11 xs u k) (ap (λ (y : ℕ). 45 ∷ digits 10 y) size ∙ simp (sign true t)) (within_both (word_within a) b)

-- ---- after a space
module _ (d : List ℕ) (i : ℕ) (o : List ℕ) (j : ℕ) (a : Appended d i (32 ∷ []) o j) (u : List ℕ) (k : ℕ) where
  pub spaced_number : (z : ℤ) → PutWithin o j 11 (decimal (stored w32 z)) u k → SFits w32 z → PutWithin d i 12 (spaced z) u k
  unfolding spaced
  spaced_number z b h = subst (λ (x : ℤ). PutWithin d i 12 (32 ∷ decimal x) u k) (to_z-of_z h) (within_both (word_within a) b)

  pub spaced_natural_law : (n : ℕ) → PutWithin o j 20 (digits 20 n) u k → PutWithin d i 21 (spaced_natural n) u k
  unfolding spaced_natural
  spaced_natural_law n b = within_both (word_within a) b
