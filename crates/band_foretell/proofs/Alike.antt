-- Two questions a ≤ b and c ≤ d have one answer where d − c is a positive multiple of b − a.
use mathlib.Core.Path.{◌≡◌, sym, ◌∙◌}
use mathlib.Core.Logic.{⊎_elim}
use mathlib.Core.List.{List}
use Prim.Native.Nat.{ℕ, ◌<◌}
use lib.IntN.{ℤ, pos, ◌-ℤ◌, ◌*ℤ◌}
use lib.Signed.{le_z, ◌≤ℤ◌, ◌<ℤ◌, clash_ℤ}
use Rattle.integers.proofs.Polynomial.{num}
use Rattle.integers.proofs.Ring.{Sides, residue, ring}
use Rattle.integers.proofs.Order.{natural, gap, ◌×₀◌, le_by, le_of_gap, le_or_lt, nonneg-≡, nonneg_cancel, pos_lt}
use Rattle.integers.proofs.Ranges.{yes_le, no_le}

pub same_answer : (ρ : List ℤ) (k : ℕ) → 0 < k → (a b c d : ℤ) (s : Sides ρ (d -ℤ c) (pos k *ℤ (b -ℤ a)))
    → residue s ≡ num (pos 0) → le_z a b ≡ le_z c d
same_answer ρ k some a b c d s e = ⊎_elim (λ h. yes_le h ∙ sym (yes_le (onward h))) (λ h. no_le h ∙ sym (no_le (missed h))) (le_or_lt a b)
  where
    onward : a ≤ℤ b → c ≤ℤ d
    onward h = le_by ρ (natural k ×₀ gap h) s e

    back : c ≤ℤ d → a ≤ℤ b
    back h = le_of_gap (nonneg_cancel (pos_lt some) (nonneg-≡ (gap h) (sym (ring ρ s e))))

    missed : b <ℤ a → d <ℤ c
    missed h = ⊎_elim (λ l. clash_ℤ h (back l)) (λ l. l) (le_or_lt c d)
