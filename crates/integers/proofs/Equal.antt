-- The test of two integers for equality: as an equation, and as code finds it, on their bits.
use mathlib.Core.Path.{◌≡◌, refl, sym, ap}
use mathlib.Core.Bool.{Bool, true, false}
use borrow.Author.Tests.{eqb-true, eqb-false}
use lib.Dec.{eqb}
use lib.IntN.{ℤ}
use lib.Signed.{le_z, ≤ℤ_refl}
use mir.Syntax.{Width}
use mir.Val.{SFits, of_z}
use Rattle.integers.specs.Equal.{equal}
use Rattle.integers.proofs.Both.{both_true}
use Rattle.integers.proofs.Order.{≤ℤ_antisymm}
use Rattle.integers.proofs.Ranges.{equal as same_number, yes_le, le_yes}

pub equal-≡ : {a b : ℤ} → equal a b ≡ true → a ≡ b
equal-≡ {a} {b} e = let h = both_true (le_z a b) (le_z b a) e in ≤ℤ_antisymm (le_yes h.0) (le_yes h.1)

pub ≡-equal : {a b : ℤ} → a ≡ b → equal a b ≡ true
≡-equal {a} {b} e = rw e (rw (yes_le (≤ℤ_refl b)))

-- bits are equal exactly where the numbers are
module _ {w : Width} {a b : ℤ} (fa : SFits w a) (fb : SFits w b) where
  pub bits_equal : of_z w a ≡ of_z w b → equal a b ≡ true
  bits_equal e = ≡-equal (same_number fa fb e)

  pub bits_differ : (of_z w a ≡ of_z w b → ⊥) → equal a b ≡ false
  bits_differ f = go (equal a b) refl
    where
      go : (t : Bool) → equal a b ≡ t → t ≡ false
      go true e = absurd (f (ap (of_z w) (equal-≡ {a = a} {b = b} e)))
      go false e = refl

  pub bits_test : eqb (of_z w a) (of_z w b) ≡ equal a b
  bits_test = go (eqb (of_z w a) (of_z w b)) refl
    where
      go : (t : Bool) → eqb (of_z w a) (of_z w b) ≡ t → t ≡ equal a b
      go true e = sym (bits_equal (eqb-true (of_z w a) (of_z w b) e))
      go false e = sym (bits_differ (eqb-false (of_z w a) (of_z w b) e))
