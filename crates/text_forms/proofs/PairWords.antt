-- Words: that a comparison of slices is what the definition says, and that a word which was found ends inside the text.
use mathlib.Core.Path.{◌≡◌, refl, sym, ◌∙◌}
use mathlib.Core.Bool.{Bool, true, false, cond}
use mathlib.Core.List.{List, [], ◌∷◌}
use Prim.Native.Nat.{ℕ, ◌+◌, ◌≤◌, ◌<◌, ◌^◌}
use native.Mathlib.Omega.{arith}
use lib.Dec.{eqb}
use lib.ListN.{length, drop, take, length-drop}
use lib.Pointwise.{pointwise}
use mir.Syntax.{w64}
use mir.Val.{Fits}
use Rattle.std.proofs.lemmas.Grind.{common_steps}
use Rattle.std.proofs.lemmas.Bool.Decides.{nat_tests}
use Rattle.integers.proofs.Clash.{clash}
use Rattle.text_forms.specs.Pairs.{starts_with, word_at}

-- ---- the comparison
pub starts_as : (w bs : List ℕ) → pointwise eqb w (take (length w) bs) ≡ starts_with w bs
unfolding starts_with
starts_as [] bs = refl
starts_as (k ∷ ks) [] = refl
starts_as (k ∷ ks) (b ∷ bs) = grind (arith, common_steps, nat_tests, starts_as ks bs)

-- ---- a word that was found ends inside
pub starts_length : (w bs : List ℕ) → starts_with w bs ≡ true → length w ≤ length bs
unfolding starts_with
starts_length [] bs e = omega arith
starts_length (k ∷ ks) [] e = clash (cc)
starts_length (k ∷ ks) (b ∷ bs) e = omega (arith, starts_length ks bs (then_true (eqb b k) (starts_with ks bs) e))
  where
    then_true : (a c : Bool) → cond a c false ≡ true → c ≡ true
    then_true true c f = f
    then_true false c f = clash (cc)

pub word_inside : (w s : List ℕ) (i : ℕ) → 0 < length w → word_at w s i ≡ true → i + length w ≤ length s
word_inside w s i h e = omega (arith, starts_length w (drop i s) e, length-drop i s)

-- so that the place after it is a machine number
module _ (s : List ℕ) (i : ℕ) (r : Bool) where
  pub word_fits : (w : List ℕ) → r ≡ word_at w s i → r ≡ true → length s < 2 ^ 64 → 0 < length w → Fits w64 (i + length w)
  word_fits w e t h p = record { fits = omega (arith, word_inside w s i p (sym e ∙ t)) }
