-- What the gaps tell of a node of degree 4 or 5. Only the contracts of functions inside cite what stands here; nothing
-- of it is part of a public promise.
use Rattle.std.specs.Prelude.{List, [], ◌∷◌, ℕ, ◌+◌, ◌-◌, ◌*◌, ◌^◌, ◌≤◌, max, ℤ, pos, nat_abs, ◌+ℤ◌, get_or}
use Rattle.integers.specs.Squares.{squared}
use Rattle.curve_nodes.specs.Differences.{difference}
use Rattle.bound_pieces.specs.declared.Gaps.{Gaps}
use Rattle.bound_pieces.specs.Inside.{spread_of, SmallGaps}

-- the sizes of the first two and the last two second differences
abbrev pub sizes_of : (d : ℕ) → List ℤ → List ℕ
sizes_of d cs =
    nat_abs (difference cs 0) ∷ nat_abs (difference cs 1)
    ∷ nat_abs (difference cs (d - 3)) ∷ nat_abs (difference cs (d - 2)) ∷ []

-- G times the larger of the inner two, and what the larger of the outer two has more times the outer gaps
unfoldable pub most_of : Gaps → List ℕ → ℕ
most_of g ns =
    g.«whole» * max (get_or ns 1 0) (get_or ns 2 0)
    + g.«outer» * (max (get_or ns 0 0) (get_or ns 3 0) - max (get_or ns 1 0) (get_or ns 2 0))

-- the first two gaps at break point 0, times the sizes there
abbrev pub end_of : Gaps → List ℕ → ℕ
end_of g ns = g.«first» * get_or ns 0 0 + g.«second» * get_or ns 1 0

-- the squares of both spreads, and of one more
abbrev pub squares_of : (w h s : ℕ) → ℤ
squares_of w h s = squared (pos (spread_of w s)) +ℤ squared (pos (spread_of h s))

abbrev pub squares_above : (w h s : ℕ) → ℤ
squares_above w h s = squared (pos (spread_of w s) +ℤ pos 1) +ℤ squared (pos (spread_of h s) +ℤ pos 1)

-- 64 bits have room for what is computed of them
pub record SmallSizes (ns : List ℕ) : Type 0 where
  pub under : (p : ℕ) → get_or ns p 0 ≤ 2 ^ 46

pub record Spread (g : Gaps) (s : ℕ) (ns : List ℕ) : Type 0 where
  pub gaps : SmallGaps g
  pub sizes : SmallSizes ns
  pub most : most_of g ns ≤ 2 ^ 36 * 2 ^ s
  pub shallow : s ≤ 24

pub record SpreadAt (g : Gaps) (s : ℕ) (ns : List ℕ) : Type 0 where
  pub gaps : SmallGaps g
  pub sizes : SmallSizes ns
  pub most : end_of g ns ≤ 2 ^ 36 * 2 ^ s
  pub shallow : s ≤ 24
