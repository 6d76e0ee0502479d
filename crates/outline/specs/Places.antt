-- Where each curve of an outline begins, and an outline with a curve too many (check 5).
use Rattle.std.specs.Prelude.{◌≡◌, List, ℕ, zero, suc, ◌<◌, length, ℤ}
use Rattle.std.proofs.Math.Option.{none}
use Rattle.outline.specs.Curves.{next_at}
use Rattle.outline.specs.Faults.{fault_at}

-- the index of the degree of curve k, counted from 0 with the curve that begins at index `at`
abbrev pub place_of : List ℤ → (at k : ℕ) → ℕ
place_of ns at zero = at
place_of ns at (suc k) = place_of ns (next_at ns at) k

-- from index `at` on, `most` curves have no fault, and one more begins at index i
pub record OneTooMany (most m : ℕ) (ns : List ℤ) (at i : ℕ) : Type 0 where
  pub no_fault : (k : ℕ) → k < most → fault_at m ns (place_of ns at k) ≡ none
  pub is : place_of ns at most ≡ i
  pub begins : i < length ns
