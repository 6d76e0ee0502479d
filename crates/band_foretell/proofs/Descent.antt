-- The descent that decides 2 a² ≤ b² with no product: where it ends, and one step of it.
use mathlib.Core.Path.{◌≡◌, refl, sym}
use mathlib.Core.Bool.{Bool, true, false, not}
use mathlib.Core.List.{List, [], ◌∷◌}
use Prim.Native.Nat.{ℕ, ◌+◌, ◌*◌, ◌≤◌, ◌<◌}
use lib.Dec.{lit<}
use lib.IntN.{ℤ, pos, ◌*ℤ◌}
use Rattle.integers.specs.Squares.{squared}
use lib.Signed.{le_z, ◌≤ℤ◌, ◌<ℤ◌}
use Rattle.integers.proofs.Ring.{sides}
use Rattle.integers.proofs.Order.{natural, gap, gap<, ◌+₀◌, ◌×₀◌, le_by, lt_by, lt_le, lt_of_gap, nonneg_by, nonneg_rounded, pos_le, pos_lt}
use Rattle.integers.proofs.Ranges.{yes_le, no_le}
use Rattle.band_foretell.specs.Inside.{doubled_fits}
use Rattle.band_foretell.proofs.Alike.{same_answer}

abbrev square : ℕ → ℤ
square p = squared (pos p)

abbrev twice : ℕ → ℤ
twice p = pos 2 *ℤ square p

-- the question, 2 p² ≤ q², or turned round, q² ≤ 2 p²
unfoldable pub asked : Bool → ℕ → ℕ → Bool
asked false p q = doubled_fits (pos p) (pos q)
asked true p q = le_z (square q) (twice p)

module _ (p q : ℕ) where
  ρ : List ℤ
  ρ = pos p ∷ pos q ∷ []

  below : q < p → square q <ℤ twice p
  unfolding ρ
  below h =
      let d = gap< (pos_lt h) in
      lt_by ρ (natural p ×₀ natural p +₀ d ×₀ d +₀ natural 2 ×₀ d +₀ natural 2 ×₀ (natural q ×₀ d) +₀ natural 2 ×₀ natural q)
      (search sides depth 40) refl

  above : 2 * p ≤ q → twice p ≤ℤ square q
  unfolding ρ
  above h =
      let e = gap (pos_le h) in
      le_by ρ (e ×₀ e +₀ natural 4 ×₀ (e ×₀ natural p) +₀ natural 2 ×₀ (natural p ×₀ natural p)) (search sides depth 40) refl

  beyond : 2 * p ≤ q → 0 < q → twice p <ℤ square q
  unfolding ρ
  beyond h k =
      let e = gap (pos_le h) in
      let f = gap< (pos_lt k) in
      lt_of_gap (nonneg_rounded 1 (nonneg_by ρ (f ×₀ f +₀ natural 2 ×₀ f +₀ e ×₀ natural q +₀ natural 2 ×₀ (e ×₀ natural p))
      (search sides depth 40) refl))

  -- q < p: 2 p² is the larger
  pub ends_below : (t : Bool) → q < p → t ≡ asked t p q
  unfolding asked doubled_fits
  ends_below false h = sym (no_le (below h))
  ends_below true h = sym (yes_le (lt_le (below h)))

  -- 2 p ≤ q: q² is the larger, unless both are 0
  pub ends_above : (t : Bool) → 2 * p ≤ q → (t ≡ true → 0 < q) → not t ≡ asked t p q
  unfolding asked doubled_fits
  ends_above false h k = sym (yes_le (above h))
  ends_above true h k = sym (no_le (beyond h (k refl)))

  -- one step: (q + 2 p)² − 2 (q + p)² = 2 p² − q²
  pub steps : (t : Bool) → asked (not t) p q ≡ asked t (q + p) (q + 2 * p)
  unfolding asked doubled_fits ρ
  steps false = same_answer ρ 1 (lit< tt) (square q) (twice p) (twice (q + p)) (square (q + 2 * p)) (search sides depth 40) refl
  steps true = same_answer ρ 1 (lit< tt) (twice p) (square q) (square (q + 2 * p)) (twice (q + p)) (search sides depth 40) refl
