-- The low is minus the high of the negated control values. So one proof, of the high, serves both.
use mathlib.Core.Path.{◌≡◌, refl, sym, ◌∙◌, ap, ap₂}
use mathlib.Core.Bool.{Bool, cond}
use mathlib.Core.List.{List, [], ◌∷◌}
use Prim.Native.Nat.{ℕ, zero, suc, zero-le}
use lib.IntN.{ℤ, pos, negsuc, neg_ℤ, ◌+ℤ◌, ◌*ℤ◌, neg_ℤ-+ℤ}
use lib.Signed.{lt_z}
use Rattle.integers.specs.Entry.{entry}
use Rattle.integers.specs.Rounding.{floor}
use Rattle.integers.proofs.Ring.{ring, sides}
use Rattle.integers.proofs.Order.{pos_le}
use Rattle.integers.proofs.Ranges.{no_lt}
use Rattle.integers.proofs.Rounding.{floor_neg}
use Rattle.curve_nodes.specs.Differences.{difference}
use Rattle.bound_rows.specs.Rows.{Row}
use Rattle.bound_enclosure.specs.Bounds.{swapped, row_sum, chord, high, low}
use Rattle.bound_rows.proofs.Negated.{negated, entry_negated}

difference_negated : (cs : List ℤ) (k : ℕ) → difference (negated cs) k ≡ neg_ℤ (difference cs k)
difference_negated cs k = simp entry_negated (ring (entry cs k ∷ entry cs (suc k) ∷ entry cs (suc (suc k)) ∷ []) (search sides depth 20) refl)

chord_negated : (m d i : ℕ) (cs : List ℤ) → chord m d i cs ≡ neg_ℤ (chord m d i (negated cs))
chord_negated m d i cs = simp entry_negated (ring (pos m ∷ pos i ∷ entry cs 0 ∷ entry cs d ∷ []) (search sides depth 20) refl)

-- one term of the sum; a difference of 0 gives 0 either way
turned : (h l δ : ℤ) → cond (lt_z δ (pos 0)) h l *ℤ δ ≡ neg_ℤ (cond (lt_z (neg_ℤ δ) (pos 0)) l h *ℤ neg_ℤ δ)
turned h l (pos zero) = ring (h ∷ l ∷ []) (search sides depth 20) refl
turned h l (pos (suc n)) =
    ap (λ (c : Bool). cond c h l *ℤ pos (suc n)) (no_lt {a = pos (suc n)} (pos_le zero-le))
    ∙ ring (l ∷ pos n ∷ []) {b = neg_ℤ (l *ℤ neg_ℤ (pos (suc n)))} (search sides depth 20) refl
turned h l (negsuc n) =
    ring (h ∷ pos n ∷ []) {a = h *ℤ neg_ℤ (pos (suc n))} {b = neg_ℤ (h *ℤ pos (suc n))} (search sides depth 20) refl
    ∙ ap (λ (c : Bool). neg_ℤ (cond c l h *ℤ pos (suc n))) (sym (no_lt {a = pos (suc n)} (pos_le zero-le)))

pub row_sum_negated : (ρs : List Row) (i k : ℕ) (cs : List ℤ) → row_sum (swapped ρs) i k cs ≡ neg_ℤ (row_sum ρs i k (negated cs))
unfolding row_sum
row_sum_negated [] i k cs = refl
row_sum_negated (ρ ∷ ρs) i k cs =
    let term : ℤ → ℤ = λ δ. cond (lt_z δ (pos 0)) (entry ρ.low i) (entry ρ.high i) *ℤ δ in
    let δ = difference (negated cs) k in
    let s = row_sum ρs i (suc k) (negated cs) in
    ap₂ ◌+ℤ◌ (turned (entry ρ.high i) (entry ρ.low i) (difference cs k) ∙ ap (λ x. neg_ℤ (term x)) (sym (difference_negated cs k)))
    (row_sum_negated ρs i (suc k) cs)
    ∙ sym (neg_ℤ-+ℤ (term δ) s)

pub low_is : (m : ℕ) (ρs : List Row) (D : ℤ) (d : ℕ) (cs : List ℤ) (i : ℕ) → low m ρs D d cs i ≡ neg_ℤ (high m ρs D d (negated cs) i)
unfolding low high
low_is m ρs D d cs i =
    let x = chord m d i (negated cs) in
    let s = row_sum ρs i 0 (negated cs) in
    let Q = pos 10000 *ℤ pos m *ℤ D in
    ap₂ (λ y z. floor (pos 16 *ℤ (y +ℤ pos m *ℤ z)) Q) (chord_negated m d i cs) (row_sum_negated ρs i 0 cs)
    ∙ ap (λ n. floor n Q) (ring (pos m ∷ x ∷ s ∷ []) {b = neg_ℤ (pos 16 *ℤ (x +ℤ pos m *ℤ s))} (search sides depth 20) refl)
    ∙ floor_neg (pos 16 *ℤ (x +ℤ pos m *ℤ s)) Q
