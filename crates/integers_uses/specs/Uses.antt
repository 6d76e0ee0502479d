-- What the contracts of the worked uses cite.
use Rattle.std.specs.Prelude.{List, [], ◌∷◌, ◌<◌, ◌^◌, ℤ, pos, ◌-ℤ◌, ◌≤ℤ◌}
use Rattle.std.specs.Int.Signed.{mag}

-- four numbers below 2^30
pub record SmallWeights (p r a b : ℤ) : Type 0 where
  pub of_p : mag p < 2 ^ 30
  pub of_r : mag r < 2 ^ 30
  pub of_a : mag a < 2 ^ 30
  pub of_b : mag b < 2 ^ 30

-- s is at least the difference of a and b, whichever is the larger
pub record Distance (a b s : ℤ) : Type 0 where
  pub from_a : (a -ℤ b) ≤ℤ s
  pub from_b : (b -ℤ a) ≤ℤ s

abbrev pub squares : List ℤ
squares = pos 0 ∷ pos 1 ∷ pos 4 ∷ pos 9 ∷ pos 16 ∷ pos 25 ∷ pos 36 ∷ pos 49 ∷ []
