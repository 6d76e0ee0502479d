-- The machine keeps an i32 as its bits, so a number that goes to a call, or that is compared, stands in what is known as what is read back from its bits,
-- which is the number.
use mathlib.Core.Path.{◌≡◌, sym, ap, ◌∙◌, subst}
use Prim.Native.Nat.{ℕ}
use lib.IntN.{ℤ}
use lib.Ieee.{Float}
use mir.Syntax.{w32}
use mir.Val.{SFits, to_z, of_z}
use mir.ValLaws.{to_z-of_z}
use Rattle.binary64.specs.Exact.{Exactly}

-- what a callee ensures of a number that was handed to it
pub read_back : (x : Float) (z : ℤ) (d : ℕ) → SFits w32 z → Exactly x (to_z w32 (of_z w32 z)) d → Exactly x z d
read_back x z d h v = subst (λ (y : ℤ). Exactly x y d) (to_z-of_z w32 z h) v

-- what it ensures of a number made of two others
pub read_two : (op : ℤ → ℤ → ℤ) (x : Float) (a b : ℤ) (d : ℕ) → SFits w32 a → SFits w32 b → SFits w32 (op a b)
    → Exactly x (to_z w32 (of_z w32 (op (to_z w32 (of_z w32 a)) (to_z w32 (of_z w32 b))))) d → Exactly x (op a b) d
read_two op x a b d h k l v =
    subst (λ (y : ℤ). Exactly x y d) (ap (λ (y : ℤ). to_z w32 (of_z w32 (op y (to_z w32 (of_z w32 b))))) (to_z-of_z w32 a h)
    ∙ ap (λ (y : ℤ). to_z w32 (of_z w32 (op a y))) (to_z-of_z w32 b k) ∙ to_z-of_z w32 (op a b) l) v

-- equal bits are equal numbers
pub same_bits : (a b : ℤ) → SFits w32 a → SFits w32 b → of_z w32 a ≡ of_z w32 b → a ≡ b
same_bits a b h k e = sym (to_z-of_z w32 a h) ∙ ap (to_z w32) e ∙ to_z-of_z w32 b k
