-- Only contracts of private functions cite this page: that of the loop over digits, whose answer is not exact from 2^32
-- on.
use Rattle.std.specs.Prelude.{◌≡◌, List, ℕ, ◌+◌, ◌≤◌, ◌<◌}
use Rattle.text_numbers.specs.Numerals.{value_from, digit_count}

-- v stands for n: below 2^32 it is n, and from 2^32 on n is too large as well
pub record StandsFor (v n : ℕ) : Type 0 where
  pub low : v < 4294967296 → v ≡ n
  pub high : 4294967296 ≤ v → 4294967296 ≤ n

-- the digits that bs starts with, where bs stands at place i: a value that stands for theirs, and the place after them
pub record DigitRun (bs : List ℕ) (i v next : ℕ) : Type 0 where
  pub value : StandsFor v (value_from 0 bs)
  pub after : next ≡ i + digit_count bs
