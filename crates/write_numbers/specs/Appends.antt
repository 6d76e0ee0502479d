-- What a function that puts some elements into a list leaves and returns. `sets d i xs` is the list d with xs from
-- place i on, and all else as it was.
use Rattle.std.specs.Prelude.{◌≡◌, List, ℕ, ◌+◌, ◌≤◌, length}
use Rattle.std.proofs.lemmas.List.Edits.{sets}

-- the list was d and is o, with xs put at place i, and j is the place after them
pub record Appended {A : Type 0} (d : List A) (i : ℕ) (xs : List A) (o : List A) (j : ℕ) : Type 0 where
  pub list : o ≡ sets d i xs
  pub next : j ≡ i + length xs

-- as `Appended`, within the n places that were asked for
pub record PutWithin {A : Type 0} (d : List A) (i n : ℕ) (xs : List A) (o : List A) (j : ℕ) : Type 0 where
  pub put : Appended d i xs o j
  pub small : j ≤ i + n
