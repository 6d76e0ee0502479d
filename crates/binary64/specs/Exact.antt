-- What it is for an f64 to be exactly a number (document 02, request 10). The toolchain's `Float` is `nan`, an infinity
-- `inf s`, or `fin s m e`, the number m × 2^e, negative where s is true; 2^e is the fraction up e / down e.
use Rattle.std.specs.Prelude.{◌≡◌, ℕ, suc, ◌*◌, Bool, true, false, ℤ, pos, negsuc, neg_ℤ, Float}
use Rattle.std.specs.Float.{nan, inf, fin}
use Rattle.std.specs.Float.Ieee.{up, down}

-- x is exactly z / d: finite, with z's sign, and of the size |z| / d, which is said crosswise, without a division. A
-- zero has the sign of `pos 0`, so −0 is not exactly 0: it is never handed out.
abbrev pub Exactly : Float → ℤ → ℕ → Type 0
Exactly nan z d = ⊥
Exactly (inf s) z d = ⊥
Exactly (fin s m e) (pos n) d = (s ≡ false) × (m * up e * d ≡ n * down e)
Exactly (fin s m e) (negsuc n) d = (s ≡ true) × (m * up e * d ≡ suc n * down e)

-- the whole number of the size n, negative where s is true; of the size 0 there is one, so −0 is 0
abbrev pub signed : Bool → ℕ → ℤ
signed false n = pos n
signed true n = neg_ℤ (pos n)

-- x is the whole number z, a zero of either sign being 0: z is of the size n, with x's sign, and m × 2^e is n
abbrev pub Number : Float → ℤ → Type 0
Number nan z = ⊥
Number (inf s) z = ⊥
Number (fin s m e) z = (n : ℕ) × (z ≡ signed s n) × (m * up e ≡ n * down e)
