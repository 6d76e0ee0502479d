-- For contracts inside the engine alone, no part of a public promise: a curve that can be read, and the fault of one.
use Rattle.std.specs.Prelude.{◌≡◌, true, List, ℕ, ◌+◌, ◌*◌, ◌≤◌, ◌<◌, length, ℤ, Float, Result, Ok, Err}
use Rattle.integers.specs.Entry.{entry}
use Rattle.refusals.specs.declared.Refusal.{Refusal}
use Rattle.outline.specs.Curves.{degree_fine, coordinates, degree_at, next_at}
use Rattle.outline.specs.Faults.{coordinate_fine}
use Rattle.outline_binary64.specs.Lists.{named}

-- d + 1 coordinates of the list, every other one from index i on, are read
pub record AllRead (ns : List ℤ) (d i : ℕ) : Type 0 where
  pub inside : i + 2 * d < length ns
  pub fine : (k : ℕ) → k ≤ d → coordinate_fine (entry ns (i + 2 * k)) ≡ true

-- a curve stands at index `at`, and all its coordinates are read
pub record Stands (ns : List ℤ) (at : ℕ) : Type 0 where
  pub degree : degree_fine (entry ns at) ≡ true
  pub ends : next_at ns at ≤ length ns
  pub fine : (k : ℕ) → k < coordinates (degree_at ns at) → coordinate_fine (entry ns (at + 1 + k)) ≡ true

-- what the checks answer, with 21 in the place of 4
abbrev pub fault_named : List Float → Result (Unit {0}) Refusal → Result (Unit {0}) Refusal
fault_named xs (Err r) = Err (named xs r)
fault_named xs (Ok u) = Ok u
