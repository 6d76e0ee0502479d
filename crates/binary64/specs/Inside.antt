-- For contracts inside the engine alone, no part of a public promise: whole numbers of at most 2^20 in size.
use Rattle.std.specs.Prelude.{Bool, false, ℤ, pos, nat_le, unsigned_abs, Float}
use Rattle.std.proofs.Math.Option.{Option, none, some}
use Rattle.binary64.specs.Read.{read_of}

abbrev pub near_in : Option ℤ → Bool
near_in none = false
near_in (some z) = nat_le (unsigned_abs z) 1048576

-- whether an f64 is such a number
abbrev pub near_of : Float → Bool
near_of x = near_in (read_of x)

-- the number, and 0 where there is none
abbrev pub number_in : Option ℤ → ℤ
number_in none = pos 0
number_in (some z) = z

abbrev pub near_number : Float → ℤ
near_number x = number_in (read_of x)
