-- An entry of a list of integers, by its place. Past the end it is 0, so that a law needs no bound on the place.
use Rattle.std.specs.Prelude.{List, ℕ, ℤ, pos, get_or}

abbrev pub entry : List ℤ → ℕ → ℤ
entry cs k = get_or cs k (pos 0)
