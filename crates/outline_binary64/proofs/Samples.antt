-- What a list gives, computed at samples: which refusal names a number, and where.
use mathlib.Core.Path.{◌≡◌, refl}
use mathlib.Core.List.{List, [], ◌∷◌, map}
use Prim.Native.Nat.{ℕ}
use lib.Ieee.{binary64, of_bits}
use Rattle.integers.specs.First.{first_bad}
use Rattle.refusals.specs.declared.Refusal.TheVariants.{Degree, Coordinate, NotWhole}
use Rattle.outline.specs.Faults.{fault_at}
use Rattle.outline.specs.Checks.{Outlined, faulty, outline_from, outlined}
use Rattle.outline_binary64.specs.Lists.{outlined_binary64}

-- of a list of bit patterns, with three pieces a leaf
gives : List ℕ → Outlined
unfolding of_bits
gives bs = outlined_binary64 4096 3 (map (of_bits binary64) bs)

-- a degree, the first coordinate of a line, and three others that are 7.0
line : ℕ → ℕ → List ℕ
line degree x = degree ∷ x ∷ 0x401c_0000_0000_0000 ∷ 0x401c_0000_0000_0000 ∷ 0x401c_0000_0000_0000 ∷ []

-- the degree 1.0
abbrev one : ℕ
one = 0x3ff0_0000_0000_0000

-- the degrees NaN, 2.5, −0.0 and infinity are 2
degrees : map (λ d. gives (line d 0)) (0x7ff8_0000_0000_0000 ∷ 0x4004_0000_0000_0000 ∷ 0x8000_0000_0000_0000 ∷ 0x7ff0_0000_0000_0000 ∷ [])
    ≡ faulty (Degree 0) ∷ faulty (Degree 0) ∷ faulty (Degree 0) ∷ faulty (Degree 0) ∷ []
unfolding gives line outlined_binary64 outlined outline_from fault_at
degrees = refl

-- 2000000.5, an infinity and a NaN are 21; 1048577.0, 1e300 and 2^53 + 2 are 4
not_whole : map (λ x. gives (line one x)) (0x413e_8480_8000_0000 ∷ 0x7ff0_0000_0000_0000 ∷ 0x7ff8_0000_0000_0000 ∷ [])
    ≡ faulty (NotWhole 1) ∷ faulty (NotWhole 1) ∷ faulty (NotWhole 1) ∷ []
unfolding gives line outlined_binary64 outlined outline_from fault_at first_bad
not_whole = refl

beyond : map (λ x. gives (line one x)) (0x4130_0001_0000_0000 ∷ 0x7e37_e43c_8800_759c ∷ 0x4340_0000_0000_0001 ∷ [])
    ≡ faulty (Coordinate 1) ∷ faulty (Coordinate 1) ∷ faulty (Coordinate 1) ∷ []
unfolding gives line outlined_binary64 outlined outline_from fault_at first_bad
beyond = refl
