-- At the ends of its parameters, 0 and 1, a Bernstein sum is its first and its last coefficient.
use mathlib.Core.Path.{◌≡◌, refl, ◌∙◌, ap}
use mathlib.Core.List.{List, [], ◌∷◌}
use Prim.Native.Nat.{ℕ, zero, suc}
use lib.IntN.{ℤ, pos, ◌+ℤ◌, ◌*ℤ◌, pow, one}
use Rattle.integers.specs.Entry.{entry}
use Rattle.integers.proofs.Ring.{ring, sides}
use Rattle.curve_bernstein.specs.Value.{value}
use Rattle.curve_bernstein.proofs.Recursion.{casteljau, value_is}

casteljau_start : (d : ℕ) (f : ℕ → ℤ) → casteljau (pos 0) (pos 1) d f ≡ f 0
unfolding casteljau
casteljau_start zero f = refl
casteljau_start (suc d) f =
    let rest = casteljau (pos 0) (pos 1) d (λ i. f (suc i)) in
    ap (λ z. pos 1 *ℤ z +ℤ pos 0 *ℤ rest) (casteljau_start d f) ∙ ring (f 0 ∷ rest ∷ []) (search sides depth 20) refl

casteljau_end : (d : ℕ) (f : ℕ → ℤ) → casteljau (pos 1) (pos 0) d f ≡ f d
unfolding casteljau
casteljau_end zero f = refl
casteljau_end (suc d) f =
    let rest = casteljau (pos 1) (pos 0) d f in
    ap (λ z. pos 0 *ℤ rest +ℤ pos 1 *ℤ z) (casteljau_end d (λ i. f (suc i))) ∙ ring (f (suc d) ∷ rest ∷ []) (search sides depth 20) refl

pub value_start : (d : ℕ) (cs : List ℤ) → value (pos 0) (pos 1) d cs ≡ entry cs 0
value_start d cs = value_is (pos 0) (pos 1) d cs ∙ casteljau_start d (entry cs)

pub value_end : (d : ℕ) (cs : List ℤ) → value (pos 1) (pos 0) d cs ≡ entry cs d
value_end d cs = value_is (pos 1) (pos 0) d cs ∙ casteljau_end d (entry cs)

-- weights of 0 and 1 leave numbers as they are
pub one_powers : (d : ℕ) → pow (pos 1) d ≡ pos 1
unfolding pow one
one_powers zero = refl
one_powers (suc d) = ap (λ z. z *ℤ pos 1) (one_powers d)
