-- How large control values are.
use Rattle.std.specs.Prelude.{List, ℕ, ◌≤◌, ℤ, nat_abs}
use Rattle.integers.specs.Entry.{entry}

-- every entry is at most B in size
pub record Each (B : ℕ) (cs : List ℤ) : Type 0 where
  pub under : (k : ℕ) → nat_abs (entry cs k) ≤ B
