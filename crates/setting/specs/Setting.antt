-- What the operations leave open, in one record, and the sizes that follow from it (document 01). Definitions take a
-- setting; an operation's contract says which.
use Rattle.std.specs.Prelude.{Bool, true, false, ◌&&◌, ◌||◌, cond, ℕ, suc, ◌+◌, ◌*◌, ◌≤◌, leb}

pub record Setting : Type 0 where
  -- the most curves that an outline may have
  pub most : ℕ
  -- the most leaves that its curves may have
  pub leaves : ℕ
  -- how many pieces a leaf has, so that its break points are 0 to this number
  pub pieces : ℕ
  -- whether control values count sixths of a stage unit (request 13), and not whole units
  pub sixths : Bool

-- how many steps of a control value make a stage unit
abbrev pub scale : Setting → ℕ
scale σ = cond σ.sixths 6 1

-- at most so many curves and leaves, and m pieces
abbrev pub limited : (most leaves m : ℕ) → Setting
limited most leaves m = record { most = most; leaves = leaves; pieces = m; sixths = false }

-- the setting of a caller who gives lists, with m pieces and control values that are sixths or not
abbrev pub lists_of : ℕ → Bool → Setting
lists_of m sixths = record { most = 4096; leaves = 1048576; pieces = m; sixths = sixths }

-- the setting of a caller who gives lists and the number of pieces, m (requests 05 and 06); every leaf list is judged
-- in it. No curve has more than 256 leaves, so their limit is never passed.
abbrev pub lists : ℕ → Setting
lists m = lists_of m false

-- the setting of a caller who gives B-splines (request 13)
abbrev pub splines : ℕ → Setting
splines m = lists_of m true

-- σ with other limits of curves and leaves
abbrev pub relimited : Setting → (most leaves : ℕ) → Setting
relimited σ most leaves = record { most = most; leaves = leaves; pieces = σ.pieces; sixths = σ.sixths }

-- the setting of the bench station (request 07)
abbrev pub station : ℕ → Setting
station m = limited 64 128 m

-- the setting of a caller of lists with document 01's number of pieces, which texts keep
abbrev pub standard : Setting
standard = lists 3

-- the setting of texts, which stop at their 65th curve. 64 curves have at most 16384 leaves, so this limit is never
-- passed: the 910 leaves of a text are check 8's, as 16,380 numbers are lent and a record has 18.
abbrev pub texts : Setting
texts = limited 64 16384 3

-- 18: the number of pieces is 1 to 8
abbrev pub pieces_fine : ℕ → Bool
pieces_fine m = leb 1 m && leb m 8

-- `pieces_fine` in words: there are rows for so many pieces
pub record HasRows (m : ℕ) : Type 0 where
  pub least : 1 ≤ m
  pub most : m ≤ 8

-- how many break points a leaf has
abbrev pub break_points : Setting → ℕ
break_points σ = suc σ.pieces

-- how many covers a leaf has: one between each two neighbouring break points
abbrev pub covers : Setting → ℕ
covers σ = σ.pieces

-- how many numbers a record has: curve, node, and four for the box at each break point
abbrev pub record_length : Setting → ℕ
record_length σ = 2 + 4 * break_points σ

-- the greatest degree (request 08)
abbrev pub most_degree : ℕ
most_degree = 5

-- 20: degrees 4 and 5 take 3 pieces or more
abbrev pub degree_pieces : ℕ → ℕ → Bool
degree_pieces d m = leb d 3 || leb 3 m

-- how many control values of a coordinate are kept, whatever the degree
abbrev pub control_values : ℕ
control_values = suc most_degree

-- the greatest depth of a node of a curve of degree d: 8, and 4 for degrees 4 and 5
abbrev pub deepest : ℕ → ℕ
deepest d = cond (leb d 3) 8 4

-- the greatest number of a node: the last one at the greatest depth of any degree, 8, is 2^9 − 1
abbrev pub greatest_node : ℕ
greatest_node = 511
