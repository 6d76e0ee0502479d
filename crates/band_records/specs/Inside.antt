-- For contracts inside the engine alone, no part of a public promise: boxes as the code computes and stores them.
use Rattle.std.specs.Prelude.{List, [], ◌∷◌, ℕ, zero, suc, ◌+◌, ◌*◌, ℤ, set}
use Rattle.bound_coordinate.specs.declared.terms.Terms.{Terms}
use Rattle.bound_coordinate.specs.Terms.{low_by, high_by}
use Rattle.bound_coordinate.specs.declared.higher.HigherTerms.{HigherTerms}
use Rattle.bound_coordinate.specs.HigherTerms.{higher_low, higher_high}

-- the numbers of the box at break point i, from the lows and the highs of both coordinates
unfoldable pub box_from : (x_low x_high y_low y_high : ℕ → ℤ) → ℕ → List ℤ
box_from x_low x_high y_low y_high i = x_low i ∷ x_high i ∷ y_low i ∷ y_high i ∷ []

-- the numbers of the box at a break point at degrees 1 to 3, from copied rows and the terms of both coordinates
abbrev pub box_by : (q s : ℕ) → List ℤ → (x y : Terms) → ℕ → List ℤ
box_by q s rows x y = box_from (low_by q s rows x) (high_by q s rows x) (low_by q s rows y) (high_by q s rows y)

-- a list with the lows and the highs of one coordinate at the first n break points, four places apart, from place `at`
-- on; between them stands what stood there
abbrev pub put_pairs : List ℤ → (at : ℕ) → (low high : ℕ → ℤ) → (n : ℕ) → List ℤ
put_pairs l at low high zero = l
put_pairs l at low high (suc n) =
    set (set (put_pairs l at low high n) (at + 4 * n) (low n)) (at + 4 * n + 1) (high n)

-- a list with the lows and the highs of one coordinate at degrees 4 and 5, from copied rows and the coordinate's terms
abbrev pub put_pairs_by : List ℤ → (at m s : ℕ) → List ℤ → HigherTerms → (n : ℕ) → List ℤ
put_pairs_by l at m s rows z = put_pairs l at (higher_low m s rows z) (higher_high m s rows z)
