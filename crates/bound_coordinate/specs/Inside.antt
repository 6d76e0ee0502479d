-- Only the contracts of functions inside cite what stands here; nothing of it is part of a public promise.
use Rattle.std.specs.Prelude.{◌≡◌, List, ℕ, ◌≤◌, ◌^◌, ℤ, nat_abs}
use Rattle.curve_halves.specs.Sizes.{Each}

-- a coordinate of degree 1 to 3 that 64 bits have room to bound
pub record Boundable (cs : List ℤ) (d : ℕ) : Type 0 where
  pub least : 1 ≤ d
  pub most : d ≤ 3
  pub values : Each (2 ^ 44) cs

-- one of degree 4 or 5
pub record HigherBoundable (cs : List ℤ) (d : ℕ) : Type 0 where
  pub least : 4 ≤ d
  pub most : d ≤ 5
  pub values : Each (2 ^ 44) cs

-- z is at most B in size
pub record Small (B : ℕ) (z : ℤ) : Type 0 where
  pub size : nat_abs z ≤ B

-- the number r, which code computed, is z, and at most B in size
pub record Computed (B : ℕ) (z r : ℤ) : Type 0 where
  pub is : r ≡ z
  pub size : nat_abs r ≤ B
