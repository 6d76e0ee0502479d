-- The computed test that proofs/Nonnegative.antt shows to be right: the Bernstein coefficients are not negative, or, with fuel left, those of both halves
-- pass.
use mathlib.Core.Bool.{Bool, true, false, ◌&&◌}
use mathlib.Core.List.{List, [], ◌∷◌}
use Prim.Native.Nat.{ℕ, zero, suc}
use lib.IntN.{ℤ, pos}
use lib.Signed.{non_neg}
use Rattle.curve_bernstein.proofs.Stretch.{stretch}

-- ---- the halves, times 2^n
abbrev pub left : ℕ → List ℤ → List ℤ
left n cs = stretch (pos 0) (pos 2) (pos 1) (pos 1) n cs

abbrev pub right : ℕ → List ℤ → List ℤ
right n cs = stretch (pos 1) (pos 1) (pos 2) (pos 0) n cs

-- ---- the test
abbrev pub all_nonnegative : List ℤ → Bool
all_nonnegative [] = true
all_nonnegative (c ∷ cs) = non_neg c && all_nonnegative cs

abbrev pub nonnegative : (n fuel : ℕ) → List ℤ → Bool
nonnegative n zero cs = all_nonnegative cs
nonnegative n (suc fuel) cs = elim (all_nonnegative cs) [ true ↦ true | false ↦ nonnegative n fuel (left n cs) && nonnegative n fuel (right n cs) ]
