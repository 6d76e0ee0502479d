-- Only the contracts of functions inside cite what stands here; nothing of it is part of a public promise.
use Rattle.std.specs.Prelude.{◌≡◌, Bool, true, cond, List, [], ◌∷◌, ℕ, zero, suc, ◌+◌, ◌-◌, ◌*◌, ◌/◌, ◌^◌}
use Rattle.std.specs.Prelude.{◌≤◌, eqb, ltb, ℤ, nat_abs, ◌+ℤ◌, ◌-ℤ◌}
use Rattle.setting.specs.Setting.{Setting, HasRows, lists_of}
use Rattle.integers.specs.Entry.{entry}
use Rattle.integers.specs.Squares.{squared}
use Rattle.curve_nodes.specs.Differences.{difference}
use Rattle.bound_rows.specs.Rows.{Row, row_at}
use Rattle.bound_rows.specs.Table.{rows_of}
use Rattle.bound_rows.specs.Rule.{gap_of}
use Rattle.bound_row_table.specs.Inside.{Copied}
use Rattle.bound_coordinate.specs.declared.terms.Terms.{Terms}
use Rattle.bound_coordinate.specs.Terms.{low_by, high_by}
use Rattle.bound_coordinate.specs.declared.higher.HigherTerms.{HigherTerms}
use Rattle.bound_coordinate.specs.HigherTerms.{higher_low, higher_high}
use Rattle.bound_pieces.specs.declared.Pieces.{Pieces}
use Rattle.bound_pieces.specs.declared.Gaps.{Gaps}
use Rattle.bound_node.specs.declared.node_boxes.WideBox.{WideBox}

-- every number of a box is at most B in size
pub record SmallBox (B : ℕ) (b : WideBox) : Type 0 where
  pub x_low : nat_abs b.x_low ≤ B
  pub x_high : nat_abs b.x_high ≤ B
  pub y_low : nat_abs b.y_low ≤ B
  pub y_high : nat_abs b.y_high ≤ B

-- ---- the quick test of a node: how far apart its lows and highs are before rounding
-- the gaps of the rows at break point i, high less low, one for each second difference
abbrev pub gaps_at : List Row → ℕ → List ℕ
gaps_at [] i = []
gaps_at (ρ ∷ ρs) i = nat_abs (entry ρ.high i -ℤ entry ρ.low i) ∷ gaps_at ρs i

-- gaps times the sizes of the differences from place k on, summed
unfoldable pub gaps_sum : List ℕ → ℕ → List ℤ → ℕ
gaps_sum [] k cs = 0
gaps_sum (g ∷ gs) k cs = g * nat_abs (difference cs k) + gaps_sum gs (suc k) cs

-- n / q rounded up
abbrev pub up : ℕ → ℕ → ℕ
up n q = (n + (q - 1)) / q

-- 6 over the scale of control values: sums are multiplied by it, so that one divisor serves units and sixths
abbrev pub times : Bool → ℕ
times sixths = cond sixths 1 6

-- a sum so multiplied in sixteenths, rounded up, for values over 2^s; with the gaps of a break point, its width is this
-- or one more
unfoldable pub spread_of : (n s : ℕ) → ℕ
spread_of n s = up n (3750 * 2 ^ s)

-- ---- m pieces: two corners in place of the gaps of all break points, none of which is wider than both corners are
-- the gap of row k of degree d at break point i
abbrev pub gap_at : (m d k i : ℕ) → ℕ
gap_at m d k i = nat_abs (entry (row_at (rows_of m d) k).high i -ℤ entry (row_at (rows_of m d) k).low i)

-- the break point, 0 or 1, that has the larger first gap of degree 3
abbrev pub widest_at : ℕ → ℕ
widest_at m = cond (ltb (gap_at m 3 0 0) (gap_at m 3 0 1)) 1 0

-- A, the largest gap of degree 3 at any break point, and what G has more
unfoldable pub near_gap : ℕ → ℕ
near_gap m = gap_at m 3 0 (widest_at m)

unfoldable pub far_gap : ℕ → ℕ
far_gap m = gap_of m 3 - near_gap m

-- the gaps of degree d at a corner: a and b at degree 3, G at degree 2, none at degree 1
unfoldable pub corner_of : (m a b d : ℕ) → List ℕ
corner_of m a b zero = []
corner_of m a b (suc zero) = []
corner_of m a b (suc (suc zero)) = gap_of m 2 ∷ []
corner_of m a b (suc (suc (suc d))) = a ∷ b ∷ []

-- (A, G − A), and the same from the other end, (G − A, A)
abbrev pub near_corner : (m d : ℕ) → List ℕ
near_corner m d = corner_of m (near_gap m) (far_gap m) d

abbrev pub far_corner : (m d : ℕ) → List ℕ
far_corner m d = corner_of m (far_gap m) (near_gap m) d

-- the sums of the near and the far corner, so multiplied
abbrev pub sums_of : (sixths : Bool) (m d : ℕ) → List ℤ → List ℕ
sums_of sixths m d cs =
    times sixths * gaps_sum (near_corner m d) 0 cs ∷ times sixths * gaps_sum (far_corner m d) 0 cs ∷ []

-- the gaps at the break point of a corner: A and the other one there, at most G − A, and the same from the other end
unfoldable pub other_gap : ℕ → ℕ
other_gap m = gap_at m 3 1 (widest_at m)

abbrev pub near_point : (m d : ℕ) → List ℕ
near_point m d = corner_of m (near_gap m) (other_gap m) d

abbrev pub far_point : (m d : ℕ) → List ℕ
far_point m d = corner_of m (other_gap m) (near_gap m) d

-- the sum at one of the two, so multiplied
abbrev pub point_sum : (sixths : Bool) (m d : ℕ) → (last : Bool) → List ℤ → ℕ
point_sum sixths m d last cs = times sixths * gaps_sum (cond last (far_point m d) (near_point m d)) 0 cs

-- the gaps of the corners are those of break points
unfoldable pub exact_of : (sixths : Bool) (m d : ℕ) → Bool
exact_of sixths m d = cond (ltb d 3) true (eqb (times sixths * (far_gap m - other_gap m)) 0)

-- what goes with degree 4 or 5: G, the first and the last gap at break point 0 and their sum; 0 for fewer pieces than
-- they take
unfoldable pub gaps_of : (m d : ℕ) → Gaps
gaps_of m d = cond (ltb m 3) (record { «whole» = 0; «outer» = 0; «first» = 0; «second» = 0 }) (record {
  «whole» = gap_of m d;
  «outer» = gap_at m d 0 0 + gap_at m d (d - 2) 0;
  «first» = gap_at m d 0 0;
  «second» = gap_at m d 1 0;
})

-- what goes with the number of pieces and the scale: near and other are the gaps of degree 3 at the break point where
-- the first is the largest, both is G
unfoldable pub pieces_by : (m : ℕ) (sixths : Bool) (single near other both : ℕ) → (quartic quintic : Gaps) → Pieces
pieces_by m sixths single near other both quartic quintic = record {
  «m» = m;
  «sixths» = sixths;
  «divisor» = m * cond sixths 6 1;
  «scale» = 5040 / (m * cond sixths 6 1);
  «single» = times sixths * single;
  «near» = times sixths * near;
  «far» = times sixths * (both - near);
  «less» = times sixths * (both - near - other);
  «quartic» = quartic;
  «quintic» = quintic;
}

unfoldable pub pieces_of : ℕ → Bool → Pieces
pieces_of m sixths =
    pieces_by m sixths (gap_of m 2) (near_gap m) (other_gap m) (gap_of m 3) (gaps_of m 4) (gaps_of m 5)

-- the setting of lists that it goes with
abbrev pub setting_of : Pieces → Setting
setting_of p = lists_of p.m p.sixths

-- what goes with m pieces, and their rows, copied out of the table
pub record PiecesReady (p : Pieces) (rows : List ℤ) : Type 0 where
  pub has : HasRows p.m
  pub is : p ≡ pieces_of p.m p.sixths
  pub copied : Copied p.m rows

-- the square of a box's diagonal at break point i, from the terms of both coordinates
abbrev pub across_by : (q s : ℕ) → List ℤ → (x y : Terms) → ℕ → ℤ
across_by q s rows x y i =
    squared (high_by q s rows x i -ℤ low_by q s rows x i) +ℤ squared (high_by q s rows y i -ℤ low_by q s rows y i)

abbrev pub higher_across_by : (m s : ℕ) → List ℤ → (x y : HigherTerms) → ℕ → ℤ
higher_across_by m s rows x y i =
    squared (higher_high m s rows x i -ℤ higher_low m s rows x i)
    +ℤ squared (higher_high m s rows y i -ℤ higher_low m s rows y i)

-- 64 bits have room for what is computed of them
pub record SmallGaps (g : Gaps) : Type 0 where
  pub whole : g.«whole» ≤ 7500
  pub outer : g.«outer» ≤ 7500
  pub first : g.«first» ≤ 7500
  pub second : g.«second» ≤ 7500
