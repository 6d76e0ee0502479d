-- From the order to the machine and back: the Bool tests that comparisons of signed numbers give, the range of a signed width, and equality of bits.
use mathlib.Core.Path.{◌≡◌, refl, sym, ◌∙◌, ap, subst}
use mathlib.Core.Bool.{Bool, true, false, not}
use Prim.Native.Nat.{◌^◌, ◌<◌}
use lib.Dec.{T}
use lib.IntN.{ℤ}
use lib.Signed.{mag, le_z, lt_z, ◌≤ℤ◌, ◌<ℤ◌, le_z_yes, lt_z_yes, lt_z_no, clash_ℤ}
use mir.Syntax.{Width}
use mir.Val.{SFits, hbits, to_z, of_z}
use mir.Facts.{to_z-of_z}
use Rattle.integers.proofs.Order.{le_z_no}

-- ---- a signed local is bits: z kept in w bits and read again
abbrev pub stored : Width → ℤ → ℤ
stored w z = to_z w (of_z w z)

-- what fits is read as it was kept
pub read_again : (w : Width) (z : ℤ) → mag z < 2 ^ hbits w → stored w z ≡ z
read_again w z h = to_z-of_z {w = w} {z = z} (record { sfits = h })

-- ---- what a test says
pub lt_yes : {a b : ℤ} → lt_z a b ≡ true → a <ℤ b
lt_yes e = lt_z_yes (subst T (sym e) tt)

pub lt_no : {a b : ℤ} → lt_z a b ≡ false → b ≤ℤ a
lt_no e = lt_z_no (subst (λ (b : Bool). T (not b)) (sym e) tt)

pub le_yes : {a b : ℤ} → le_z a b ≡ true → a ≤ℤ b
le_yes e = le_z_yes (subst T (sym e) tt)

pub le_no : {a b : ℤ} → le_z a b ≡ false → b <ℤ a
le_no e = le_z_no (subst (λ (b : Bool). T (not b)) (sym e) tt)

-- ---- which test an order gives
pub T_true : (b : Bool) → T b → b ≡ true
T_true true t = refl
T_true false t = absurd t

T_false : (b : Bool) → (T b → ⊥) → b ≡ false
T_false true f = absurd (f tt)
T_false false f = refl

pub yes_lt : {a b : ℤ} → a <ℤ b → lt_z a b ≡ true
yes_lt {a} {b} h = T_true (lt_z a b) h.lt

pub no_lt : {a b : ℤ} → b ≤ℤ a → lt_z a b ≡ false
no_lt {a} {b} h = T_false (lt_z a b) (λ t. clash_ℤ (lt_z_yes {a = a} {b = b} t) h)

pub yes_le : {a b : ℤ} → a ≤ℤ b → le_z a b ≡ true
yes_le {a} {b} h = T_true (le_z a b) h.le

pub no_le : {a b : ℤ} → b <ℤ a → le_z a b ≡ false
no_le {a} {b} h = T_false (le_z a b) (λ t. clash_ℤ h (le_z_yes {a = a} {b = b} t))

-- ---- code tests an equality of signed numbers on their bits
pub equal : {w : Width} {x y : ℤ} → SFits w x → SFits w y → of_z w x ≡ of_z w y → x ≡ y
equal {w} hx hy e = sym (to_z-of_z hx) ∙ ap (to_z w) e ∙ to_z-of_z hy
