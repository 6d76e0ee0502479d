-- Document 01's table of rows, as it is listed there.
use mathlib.Core.Path.{◌≡◌, refl}
use mathlib.Core.List.{List, [], ◌∷◌}
use Prim.Native.Nat.{ℕ}
use lib.IntN.{ℤ, pos, neg_ℤ}
use Rattle.bound_rows.specs.Rows.{Row, thirds}

-- four entries, each below 0 or 0
abbrev below : (a b c d : ℕ) → List ℤ
below a b c d = neg_ℤ (pos a) ∷ neg_ℤ (pos b) ∷ neg_ℤ (pos c) ∷ neg_ℤ (pos d) ∷ []

abbrev row : (high low : List ℤ) → Row
row high low = record { high = high; low = low }

pub tabled_2 : thirds 2 ≡ row (below 0 2222 2222 0) (below 278 2500 2500 278) ∷ []
tabled_2 = refl

pub tabled_3 : thirds 3 ≡ row (below 0 3703 2962 0) (below 696 4400 3155 88) ∷ row (below 0 2962 3703 0) (below 88 3155 4400 696) ∷ []
tabled_3 = refl
