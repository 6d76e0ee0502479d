-- What the search for a number that is no coordinate tells: where it stands, or that all are coordinates.
use mathlib.Core.Path.{◌≡◌, subst}
use mathlib.Core.Bool.{true}
use mathlib.Core.List.{List}
use mathlib.Core.Option.{none, some}
use Prim.Native.Nat.{ℕ, ◌+◌, ◌-◌, ◌≤◌, ◌<◌}
use native.Mathlib.Omega.{arith}
use lib.IntN.{ℤ}
use Rattle.integers.specs.Entry.{entry}
use Rattle.integers.proofs.First.{none_bad, bad_below}
use Rattle.std.specs.Prelude.{Some, None}
use Rattle.outline.specs.Faults.{coordinate_fine, first_beyond}
use Rattle.outline.specs.Inside.{found_of}
use Rattle.outline.proofs.Searching.{found_own}

pub found_inside : (ns : List ℤ) (from end : ℕ) {n i : ℕ} → from ≤ end → end ≤ n
    → found_of (first_beyond ns (end - from) from) ≡ Some i → i < n
found_inside ns from end {n} {i} l h e =
    omega (arith, bad_below (λ k. coordinate_fine (entry ns k)) (end - from) from i (found_own (first_beyond ns (end - from) from) (some i) e))

pub nowhere_fine : (ns : List ℤ) (from end : ℕ) → found_of (first_beyond ns (end - from) from) ≡ None
    → (k : ℕ) → from ≤ k → k < end → coordinate_fine (entry ns k) ≡ true
nowhere_fine ns from end e k l h =
    let fine = none_bad (λ k. coordinate_fine (entry ns k)) (end - from) from (found_own (first_beyond ns (end - from) from) none e) (k - from) (omega arith) in
    subst (λ j. coordinate_fine (entry ns j) ≡ true) (place) fine
  where
    place : from + (k - from) ≡ k
    place = omega arith
