-- How far numbers and pairs reach: where there is one, it ends no earlier than it starts, and a pair after a space past the space.
use mathlib.Core.List.{List}
use Prim.Native.Nat.{ℕ, ◌+◌, ◌≤◌}
use native.Mathlib.Omega.{arith}
use lib.IntN.{ℤ}
use Rattle.std.specs.Prelude.{Option, Some, None}
use Rattle.std.proofs.lemmas.Grind.{common_steps}
use Rattle.std.proofs.lemmas.Bool.Decides.{nat_tests}
use Rattle.text_numbers.specs.Numerals.{natural_at, number_at}
use Rattle.text_forms.specs.Pairs.{number_then, pair_at, spaced_pair_at}

-- ---- where there is something, it ends at place i or later
abbrev pub From : {A : Type 0} → ℕ → Option (A × ℕ) → Type 0
From i (Some (a, j)) = i ≤ j
From i None = Unit

abbrev pub PairFrom : ℕ → Option (ℤ × ℤ × ℕ) → Type 0
PairFrom i (Some (x, y, j)) = i ≤ j
PairFrom i None = Unit

-- ---- numbers
natural_from : (s : List ℕ) (i : ℕ) → From i (natural_at s i)
unfolding natural_at
natural_from s i = grind (arith, common_steps, nat_tests)

pub number_from : (s : List ℕ) (i : ℕ) → From i (number_at s i)
unfolding number_at
number_from s i = grind (arith, common_steps, nat_tests, natural_from)

then_from : (b : ℕ) (s : List ℕ) (i : ℕ) → From (i + 1) (number_then b s i)
unfolding number_then
then_from b s i = grind (arith, common_steps, nat_tests, number_from)

-- ---- pairs
pair_from : (s : List ℕ) (i : ℕ) → PairFrom i (pair_at s i)
unfolding pair_at
pair_from s i = grind (arith, common_steps, nat_tests, then_from)

pub spaced_from : (s : List ℕ) (i : ℕ) → PairFrom (i + 1) (spaced_pair_at s i)
unfolding spaced_pair_at
spaced_from s i = grind (arith, common_steps, nat_tests, pair_from)
