-- Control values negated, and their value.
use mathlib.Core.Path.{◌≡◌, refl, sym, ◌∙◌, ap}
use mathlib.Core.List.{List, [], ◌∷◌}
use Prim.Native.Nat.{ℕ, zero, suc}
use lib.IntN.{ℤ, pos, neg_ℤ, ◌+ℤ◌, ◌*ℤ◌}
use Rattle.integers.specs.Entry.{entry}
use Rattle.integers.proofs.Ring.{ring, sides}
use Rattle.curve_bernstein.specs.Value.{value}
use Rattle.curve_bernstein.proofs.Recursion.{casteljau, casteljau_ext, casteljau_mix, value_is}

-- every entry negated
abbrev pub negated : List ℤ → List ℤ
negated [] = []
negated (c ∷ cs) = neg_ℤ c ∷ negated cs

pub entry_negated : (cs : List ℤ) (k : ℕ) → entry (negated cs) k ≡ neg_ℤ (entry cs k)
entry_negated [] k = refl
entry_negated (c ∷ cs) zero = refl
entry_negated (c ∷ cs) (suc k) = entry_negated cs k

pub value_negated : (p r : ℤ) (d : ℕ) (cs : List ℤ) → value p r d (negated cs) ≡ neg_ℤ (value p r d cs)
value_negated p r d cs =
    value_is p r d (negated cs)
    ∙ casteljau_ext p r d (entry (negated cs)) (λ k. neg_ℤ (pos 1) *ℤ entry cs k +ℤ pos 0 *ℤ entry cs k)
    (λ k l. entry_negated cs k ∙ turn (entry cs k))
    ∙ casteljau_mix p r (neg_ℤ (pos 1)) (pos 0) d (entry cs) (entry cs)
    ∙ sym (turn (casteljau p r d (entry cs)))
    ∙ ap neg_ℤ (sym (value_is p r d cs))
  where
    turn : (c : ℤ) → neg_ℤ c ≡ neg_ℤ (pos 1) *ℤ c +ℤ pos 0 *ℤ c
    turn c = ring (c ∷ []) (search sides depth 20) refl
