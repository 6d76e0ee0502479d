-- The definitions computed at samples, each given by its bit pattern, so that the toolchain's reading of a pattern is tried too.
use Rattle.std.proofs.Common.{◌≡◌, ℕ, Bool, true, [], ◌∷◌, map, ℤ, pos, negsuc, refl, true≢false}
use mathlib.Core.Option.{Option, none, some}
use lib.Ieee.{binary64, of_bits, of_int, div}
use Rattle.binary64.specs.Exact.{Exactly}
use Rattle.binary64.specs.Read.{whole_of, read_of}

-- ---- what is read
read_bits : ℕ → Option ℤ
unfolding of_bits
read_bits b = read_of (of_bits binary64 b)

whole_bits : ℕ → Bool
unfolding of_bits
whole_bits b = whole_of (of_bits binary64 b)

-- 0.0, −0.0, 1.0, −3.0, 1048577.0, −1048577.0, 2^53 + 2
numbers : map read_bits (0 ∷ 0x8000_0000_0000_0000 ∷ 0x3ff0_0000_0000_0000 ∷ 0xc008_0000_0000_0000 ∷ 0x4130_0001_0000_0000 ∷ 0xc130_0001_0000_0000
    ∷ 0x4340_0000_0000_0001 ∷ [])
    ≡ some (pos 0) ∷ some (pos 0) ∷ some (pos 1) ∷ some (negsuc 2) ∷ some (pos 1048577) ∷ some (negsuc 1048576) ∷ some (pos 9007199254740994) ∷ []
unfolding read_bits
numbers = refl

-- 1e300 and the largest f64 are whole numbers
far : map whole_bits (0x7e37_e43c_8800_759c ∷ 0x7fef_ffff_ffff_ffff ∷ []) ≡ true ∷ true ∷ []
unfolding whole_bits
far = refl

-- 2.5, −0.5, 2000000.5, the smallest f64 above 0, the largest subnormal, both infinities, three NaNs
no_numbers : map read_bits (0x4004_0000_0000_0000 ∷ 0xbfe0_0000_0000_0000 ∷ 0x413e_8480_8000_0000 ∷ 1 ∷ 0x000f_ffff_ffff_ffff ∷ 0x7ff0_0000_0000_0000
    ∷ 0xfff0_0000_0000_0000 ∷ 0x7ff8_0000_0000_0000 ∷ 0x7ff0_0000_0000_0001 ∷ 0xffff_ffff_ffff_ffff ∷ [])
    ≡ none ∷ none ∷ none ∷ none ∷ none ∷ none ∷ none ∷ none ∷ none ∷ none ∷ []
unfolding read_bits
no_numbers = refl

-- ---- what is handed out: −0.1875 is −3 sixteenths, 33554431.9375 is 536870911 sixteenths, 0.03125 is 1 thirty-second
minus_three : Exactly (of_bits binary64 0xbfc8_0000_0000_0000) (negsuc 2) 16
unfolding of_bits
minus_three = (refl, refl)

nearly_the_highest : Exactly (of_bits binary64 0x417f_ffff_ff00_0000) (pos 536870911) 16
unfolding of_bits
nearly_the_highest = (refl, refl)

one_thirty_second : Exactly (of_bits binary64 0x3fa0_0000_0000_0000) (pos 1) 32
unfolding of_bits
one_thirty_second = (refl, refl)

-- 0.0 is exactly 0 / 16, and −0.0 is not
zero : Exactly (of_bits binary64 0) (pos 0) 16
unfolding of_bits
zero = (refl, refl)

minus_zero : Exactly (of_bits binary64 0x8000_0000_0000_0000) (pos 0) 16 → ⊥
unfolding of_bits
minus_zero v = true≢false v.0

-- the code's own steps at −3: the f64 of −3, divided by 16.0
minus_three_by_sixteen : div binary64 (of_int binary64 (negsuc 2)) (of_bits binary64 0x4030_0000_0000_0000) ≡ of_bits binary64 0xbfc8_0000_0000_0000
unfolding div of_int of_bits
minus_three_by_sixteen = refl
