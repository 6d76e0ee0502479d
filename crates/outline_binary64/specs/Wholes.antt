-- A list of f64 that are whole numbers, of any size (document 02, request 10). No contract cites this; theorems of what
-- such a list gives do.
use Rattle.std.specs.Prelude.{List, [], ◌∷◌, ℤ, Float}
use Rattle.binary64.specs.Exact.{Number}

-- each number of xs is the whole number that stands in zs at its place
pub data Numbers : List Float → List ℤ → Type 0 where
  none : Numbers [] []
  more : (x : Float) (z : ℤ) {xs : List Float} {zs : List ℤ} → Number x z → Numbers xs zs → Numbers (x ∷ xs) (z ∷ zs)
