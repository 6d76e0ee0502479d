-- Lists from a sequence, and the list of a coordinate in reverse order.
use mathlib.Core.Path.{◌≡◌, refl, ◌∙◌, ap, ap₂}
use mathlib.Core.List.{List, ◌∷◌}
use Prim.Native.Nat.{ℕ, zero, suc, ◌+◌, ◌-◌, ◌<◌, zero-le, suc-le-suc}
use native.Mathlib.Nat.{le_of_suc-le-suc, not-suc-le-zero}
use native.Mathlib.Omega.{arith}
use lib.IntN.{ℤ}
use Rattle.integers.specs.Entry.{entry}
use Rattle.curve_halves.specs.Halves.{listed, reversed}

pub listed_entry : (n : ℕ) (f : ℕ → ℤ) (k : ℕ) → k < n → entry (listed n f) k ≡ f k
listed_entry zero f k h = absurd (not-suc-le-zero h)
listed_entry (suc n) f zero h = refl
listed_entry (suc n) f (suc k) h = listed_entry n (λ j. f (suc j)) k (le_of_suc-le-suc h)

pub listed_ext : (n : ℕ) (f g : ℕ → ℤ) → ((k : ℕ) → k < n → f k ≡ g k) → listed n f ≡ listed n g
listed_ext zero f g h = refl
listed_ext (suc n) f g h = ap₂ ◌∷◌ (h 0 (suc-le-suc zero-le)) (listed_ext n (λ k. f (suc k)) (λ k. g (suc k)) (λ k l. h (suc k) (suc-le-suc l)))

pub reversed_entry : (d : ℕ) (cs : List ℤ) (k m : ℕ) → k + m ≡ d → entry (reversed d cs) k ≡ entry cs m
reversed_entry d cs k m e = listed_entry (suc d) (λ j. entry cs (d - j)) k (omega arith) ∙ ap (entry cs) (omega arith)
