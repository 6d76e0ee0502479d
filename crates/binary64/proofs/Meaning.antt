-- `read_of` says what it should: at every f64 its answer means what `Means` says, and no other answer does.
use Rattle.std.proofs.Common.{◌≡◌, ℕ, ◌%◌, Bool, true, false, T, eqb, ℤ, sym, refl, ap, ◌∙◌, eqb→eq}
use mathlib.Core.Option.{Option, none, some}
use native.Mathlib.Nat.{mul-mod_left, eq_of_mul-eq-mul_right}
use lib.Ieee.{Float, nan, inf, fin, down}
use lib.Ieee.Fits.{down_pos, eq→eqb}
use Rattle.binary64.specs.Exact.{signed, Number}
use Rattle.binary64.specs.Read.{read_of, Means}
use Rattle.binary64.proofs.Tests.{over, part, whole_part}

pub means : (x : Float) → Means x (read_of x)
means nan = λ z n. n
means (inf s) = λ z n. n
means (fin s m e) = go (eqb (over m e) 0) (eqb→eq (over m e) 0) (λ h. eq→eqb h)
  where
    go : (a : Bool) → (T a → over m e ≡ 0) → (over m e ≡ 0 → T a)
        → Means (fin s m e) (elim a [ true ↦ some (signed s (part m e)) | false ↦ none ])
    go true z n = (part m e, refl, whole_part m e (z tt))
    go false z n = λ y v. n (ap (λ (k : ℕ). k % down e) v.2 ∙ mul-mod_left v.0 (down e))

-- an f64 is one whole number at most
pub number_once : (x : Float) (y z : ℤ) → Number x y → Number x z → y ≡ z
number_once nan y z v w = absurd v
number_once (inf s) y z v w = absurd v
number_once (fin s m e) y z v w = v.1 ∙ ap (signed s) (eq_of_mul-eq-mul_right (down e) (down_pos e) v.0 w.0 (sym v.2 ∙ w.2)) ∙ sym w.1

pub one_meaning : (x : Float) (a b : Option ℤ) → Means x a → Means x b → a ≡ b
one_meaning x (some y) (some z) v w = ap some (number_once x y z v w)
one_meaning x (some y) none v w = absurd (w y v)
one_meaning x none (some z) v w = absurd (v z w)
one_meaning x none none v w = refl

-- what is a whole number is read as that number
pub read_number : (x : Float) (z : ℤ) → Number x z → read_of x ≡ some z
read_number x z n = one_meaning x (read_of x) (some z) (means x) n
