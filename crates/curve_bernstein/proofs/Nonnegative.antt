-- A computed test that a polynomial is nowhere negative from 0 to 1: its Bernstein coefficients are not negative, or, with fuel left, those of both
-- halves pass. It is right for every degree, whatever the fuel: fuel that runs out is a test that fails.
--     hump : (p r : ℕ) → pos 0 ≤ℤ value (pos p) (pos r) 3 (pos 4 ∷ negsuc 0 ∷ negsuc 0 ∷ pos 4 ∷ [])
--     hump = nonnegative_sound 3 1 (pos 4 ∷ negsuc 0 ∷ negsuc 0 ∷ pos 4 ∷ []) tt
use mathlib.Core.Path.{◌≡◌, refl, sym, ◌∙◌, ap, ap₂}
use mathlib.Core.Bool.{Bool, true, false, ◌&&◌}
use mathlib.Core.Logic.{⊎_elim}
use mathlib.Core.List.{List, [], ◌∷◌}
use Prim.Native.Nat.{ℕ, zero, suc}
use lib.Dec.{T}
use lib.IntN.{ℤ, pos, ◌-ℤ◌, ◌*ℤ◌, pow, +ℤ_idr}
use lib.Signed.{non_neg, ◌≤ℤ◌, lt_z_yes}
use Rattle.integers.specs.Entry.{entry}
use Rattle.integers.proofs.Ring.{ring, sides}
use Rattle.integers.proofs.Order.{NonNeg, natural, nonneg-≡, nonneg_cancel, pow_positive, gap, le_of_gap, lt_le, le_or_lt, ◌×₀◌}
use Rattle.integers.proofs.Table.{and_left, and_right}
use Rattle.curve_bernstein.specs.Value.{value}
use Rattle.curve_bernstein.proofs.Recursion.{casteljau_nonneg, casteljau_times, value_is}
use Rattle.curve_bernstein.proofs.Stretch.{stretch_is, half_part_value}
use Rattle.curve_bernstein.proofs.Test.{left, right, all_nonnegative}
pub use Rattle.curve_bernstein.proofs.Test.{nonnegative}

pub value_times : (k p r : ℤ) (n : ℕ) (cs : List ℤ) → value (k *ℤ p) (k *ℤ r) n cs ≡ pow k n *ℤ value p r n cs
value_times k p r n cs =
    value_is (k *ℤ p) (k *ℤ r) n cs ∙ casteljau_times p r k n (entry cs) ∙ ap (λ z. pow k n *ℤ z) (sym (value_is p r n cs))

-- ---- it is right
entry_nonnegative : (cs : List ℤ) → T (all_nonnegative cs) → (k : ℕ) → NonNeg (entry cs k)
entry_nonnegative [] t k = natural 0
entry_nonnegative (c ∷ cs) t zero = record { holds = and_left (non_neg c) (all_nonnegative cs) t }
entry_nonnegative (c ∷ cs) t (suc k) = entry_nonnegative cs (and_right (non_neg c) (all_nonnegative cs) t) k

-- where the coefficients are not negative, nor is the value
pub value_nonneg : {p r : ℤ} → NonNeg p → NonNeg r → (n : ℕ) (cs : List ℤ) → ((k : ℕ) → NonNeg (entry cs k)) → NonNeg (value p r n cs)
value_nonneg {p} {r} hp hr n cs h = nonneg-≡ (casteljau_nonneg p r hp hr n (entry cs) (λ k l. h k)) (value_is p r n cs)

-- a value is not negative where 2^n times it is not
halved : (p r : ℤ) (n : ℕ) (cs : List ℤ) → NonNeg (value (pos 2 *ℤ p) (pos 2 *ℤ r) n cs) → NonNeg (value p r n cs)
halved p r n cs h = nonneg_cancel (pow_positive {k = pos 2} (lt_z_yes tt) n) (nonneg-≡ h (sym (value_times (pos 2) p r n cs)))

from_left : (p r : ℤ) (n : ℕ) (cs : List ℤ) → NonNeg (value (pos 2 *ℤ p) (r -ℤ p) n (left n cs)) → NonNeg (value p r n cs)
from_left p r n cs h = halved p r n cs (nonneg-≡ h (sym (half_part_value 0 (pos 2 *ℤ p) (r -ℤ p) n cs (left n cs)
    (stretch_is (pos 0) (pos 2) (pos 1) (pos 1) n cs)
    ∙ ap₂ (λ x y. value x y n cs) (ring (p ∷ r ∷ []) (search sides depth 20) refl) (ring (p ∷ r ∷ []) (search sides depth 20) refl))))

from_right : (p r : ℤ) (n : ℕ) (cs : List ℤ) → NonNeg (value (p -ℤ r) (pos 2 *ℤ r) n (right n cs)) → NonNeg (value p r n cs)
from_right p r n cs h = halved p r n cs (nonneg-≡ h (sym (half_part_value 1 (p -ℤ r) (pos 2 *ℤ r) n cs (right n cs)
    (stretch_is (pos 1) (pos 1) (pos 2) (pos 0) n cs)
    ∙ ap₂ (λ x y. value x y n cs) (ring (p ∷ r ∷ []) (search sides depth 20) refl) (ring (p ∷ r ∷ []) (search sides depth 20) refl))))

-- the test with this fuel is right for n + 1 coefficients
abbrev pub Right : ℕ → ℕ → Type 0
Right n fuel = (cs : List ℤ) → T (nonnegative n fuel cs) → (p r : ℤ) → NonNeg p → NonNeg r → NonNeg (value p r n cs)

by_halves : (n fuel : ℕ) → Right n fuel → (cs : List ℤ) (p r : ℤ) → NonNeg p → NonNeg r → (b : Bool) → (T b → (k : ℕ) → NonNeg (entry cs k))
    → T (elim b [ true ↦ true | false ↦ nonnegative n fuel (left n cs) && nonnegative n fuel (right n cs) ]) → NonNeg (value p r n cs)
by_halves n fuel right-so-far cs p r hp hr true g t = value_nonneg hp hr n cs (g t)
by_halves n fuel right-so-far cs p r hp hr false g t = ⊎_elim
    (λ l. from_left p r n cs (right-so-far (left n cs) (and_left (nonnegative n fuel (left n cs)) (nonnegative n fuel (right n cs)) t)
    (pos 2 *ℤ p) (r -ℤ p) (natural 2 ×₀ hp) (gap l)))
    (λ l. from_right p r n cs (right-so-far (right n cs) (and_right (nonnegative n fuel (left n cs)) (nonnegative n fuel (right n cs)) t)
    (p -ℤ r) (pos 2 *ℤ r) (gap (lt_le l)) (natural 2 ×₀ hr)))
    (le_or_lt p r)

pub nonnegative_right : (n fuel : ℕ) → Right n fuel
nonnegative_right n zero cs t p r hp hr = value_nonneg hp hr n cs (entry_nonnegative cs t)
nonnegative_right n (suc fuel) cs t p r hp hr = by_halves n fuel (nonnegative_right n fuel) cs p r hp hr (all_nonnegative cs) (entry_nonnegative cs) t

pub nonnegative_sound : (n fuel : ℕ) (cs : List ℤ) → T (nonnegative n fuel cs) → (p r : ℕ) → pos 0 ≤ℤ value (pos p) (pos r) n cs
nonnegative_sound n fuel cs t p r = le_of_gap
    (nonneg-≡ (nonnegative_right n fuel cs t (pos p) (pos r) (natural p) (natural r)) (+ℤ_idr (value (pos p) (pos r) n cs)))
