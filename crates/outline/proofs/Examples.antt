-- The examples of document 01 that concern the checks of a tolerance and an outline, and more on the order of the checks, each by computation.
use mathlib.Core.Path.{◌≡◌, refl}
use mathlib.Core.Bool.{true, false}
use mathlib.Core.List.{List, [], ◌∷◌, ◌++◌}
use Prim.Native.Nat.{ℕ, zero, suc}
use lib.ListN.{length}
use lib.IntN.{ℤ, pos, neg_ℤ}
use Rattle.refusals.specs.Refusals.{number_of, spot_of}
use Rattle.outline.specs.Curves.{curve_at}
use Rattle.integers.specs.First.{first_bad}
use Rattle.outline.specs.Faults.{fault_at}
use Rattle.outline.specs.Checks.{Outlined, curves, faulty, tolerance_fine, outline_from, outlined}

-- the number and the spot of a refusal, or 0 and how many curves there are
abbrev answer : Outlined → ℕ × ℕ
answer (curves cs) = (0, length cs)
answer (faulty r) = (number_of r, spot_of r)

abbrev check : List ℤ → ℕ × ℕ
check ns = answer (outlined 64 3 ns)

-- a line from (0 0) to (3 4), and n of no length
abbrev line : List ℤ
line = pos 1 ∷ pos 0 ∷ pos 0 ∷ pos 3 ∷ pos 4 ∷ []

abbrev lines : ℕ → List ℤ
lines zero = []
lines (suc n) = pos 1 ∷ pos 0 ∷ pos 0 ∷ pos 0 ∷ pos 0 ∷ lines n

-- a curve of degree 2 that ends at (3 4) as well, and a line from (x y) to (0 0)
abbrev bow : List ℤ
bow = pos 2 ∷ pos 5 ∷ pos 5 ∷ pos 1 ∷ pos 1 ∷ pos 3 ∷ pos 4 ∷ []

abbrev from : (x y : ℕ) → List ℤ
from x y = pos 1 ∷ pos x ∷ pos y ∷ pos 0 ∷ pos 0 ∷ []

-- ---- 1
pub least_tolerance : (tolerance_fine (pos 2) ≡ true) × (tolerance_fine (pos 1) ≡ false)
least_tolerance = (refl, refl)

pub greatest_tolerance : (tolerance_fine (pos 1048576) ≡ true) × (tolerance_fine (pos 1048577) ≡ false)
greatest_tolerance = (refl, refl)

pub least_number : tolerance_fine (neg_ℤ (pos 2147483648)) ≡ false
least_number = refl

-- ---- 6: an empty list, even where no curve may stand
pub empty_none_allowed : answer (outlined 0 3 []) ≡ (6, 0)
unfolding outlined
empty_none_allowed = refl

-- ---- 3: the list ends inside a curve, before the coordinates that are there are looked at
pub cut_short : check (pos 3 ∷ pos 1048577 ∷ pos 0 ∷ []) ≡ (3, 3)
unfolding outlined outline_from fault_at
cut_short = refl

-- ---- 2 and 20: no degree, and a degree that takes more pieces, before the end of the list is looked at
abbrev short : (m d : ℕ) → ℕ × ℕ
short m d = answer (outlined 64 m (pos d ∷ []))

pub no_degree : (short 2 0 ≡ (2, 0)) × (short 2 6 ≡ (2, 0)) × (short 3 6 ≡ (2, 0))
unfolding outlined outline_from fault_at
no_degree = (refl, refl, refl)

pub few_pieces : (short 1 3 ≡ (3, 1)) × (short 2 4 ≡ (20, 0)) × (short 2 5 ≡ (20, 0)) × (short 3 4 ≡ (3, 1)) × (short 8 5 ≡ (3, 1))
unfolding outlined outline_from fault_at
few_pieces = (refl, refl, refl, refl, refl)

pub few_pieces_later : answer (outlined 64 2 (line ++ (pos 4 ∷ []))) ≡ (20, 5)
unfolding outlined outline_from fault_at first_bad
few_pieces_later = refl

-- ---- 4: a coordinate, before the next curve's degree and before 17 of its own curve
pub farthest : check (pos 1 ∷ pos 1048576 ∷ neg_ℤ (pos 1048576) ∷ pos 0 ∷ pos 0 ∷ []) ≡ (0, 1)
unfolding outlined outline_from fault_at first_bad
farthest = refl

pub beyond : check (pos 1 ∷ pos 1048577 ∷ pos 0 ∷ pos 0 ∷ pos 0 ∷ pos 7 ∷ []) ≡ (4, 1)
unfolding outlined outline_from fault_at first_bad
beyond = refl

pub beyond_below : check (line ++ (pos 1 ∷ pos 0 ∷ pos 0 ∷ pos 0 ∷ neg_ℤ (pos 1048577) ∷ [])) ≡ (4, 9)
unfolding outlined outline_from fault_at first_bad
beyond_below = refl

-- ---- 5: a curve too many begins, whatever its degree
pub most_curves : check (lines 64) ≡ (0, 64)
unfolding outlined outline_from fault_at first_bad
most_curves = refl

pub one_more : check (lines 64 ++ (pos 9 ∷ [])) ≡ (5, 320)
unfolding outlined outline_from fault_at first_bad
one_more = refl

pub none_allowed : answer (outlined 0 3 (pos 9 ∷ [])) ≡ (5, 0)
unfolding outlined outline_from
none_allowed = refl

-- ---- 17: a curve that does not begin where the one before it ends. It is compared with the last point, in x and in y: with that of the degree, and
-- no padded one. The outline may stay open, and a curve of no length meets like any other.
pub left_open : check (bow ++ from 3 4 ++ from 0 0 ++ from 0 0) ≡ (0, 4)
unfolding outlined outline_from fault_at first_bad
left_open = refl

pub gap_in_x : check (line ++ from 2 4) ≡ (17, 5)
unfolding outlined outline_from fault_at first_bad
gap_in_x = refl

pub gap_in_y : check (line ++ from 3 5) ≡ (17, 5)
unfolding outlined outline_from fault_at first_bad
gap_in_y = refl

pub from_the_first_point : check (bow ++ from 5 5) ≡ (17, 7)
unfolding outlined outline_from fault_at first_bad
from_the_first_point = refl

pub from_the_padding : check (bow ++ from 0 0) ≡ (17, 7)
unfolding outlined outline_from fault_at first_bad
from_the_padding = refl

-- its place: after 4 of its own curve (`beyond_below`) and of those before, before 2 and 5 of the next
pub coordinate_before_gap : check (pos 1 ∷ pos 0 ∷ pos 0 ∷ pos 1048577 ∷ pos 0 ∷ from 3 4) ≡ (4, 3)
unfolding outlined outline_from fault_at first_bad
coordinate_before_gap = refl

pub gap_before_degree : check (line ++ from 0 0 ++ (pos 7 ∷ [])) ≡ (17, 5)
unfolding outlined outline_from fault_at first_bad
gap_before_degree = refl

pub gap_before_count : check (lines 63 ++ from 1 0 ++ (pos 1 ∷ [])) ≡ (17, 315)
unfolding outlined outline_from fault_at first_bad
gap_before_count = refl

pub count_before_gap : check (lines 64 ++ from 1 0) ≡ (5, 320)
unfolding outlined outline_from fault_at first_bad
count_before_gap = refl

-- ---- what is read: document 01's curve A, and a curve of degree 2, padded
abbrev curve_a_law : List ℤ
curve_a_law = pos 3 ∷ pos 0 ∷ pos 0 ∷ pos 10 ∷ pos 30 ∷ pos 20 ∷ pos 30 ∷ pos 30 ∷ pos 0 ∷ []

abbrev arch : List ℤ
arch = pos 2 ∷ pos 30 ∷ pos 0 ∷ pos 31 ∷ pos 18 ∷ pos 32 ∷ pos 0 ∷ []

pub read : outlined 64 3 (curve_a_law ++ arch) ≡ curves (
    record { degree = 3; x = pos 0 ∷ pos 10 ∷ pos 20 ∷ pos 30 ∷ pos 0 ∷ pos 0 ∷ []; y = pos 0 ∷ pos 30 ∷ pos 30 ∷ pos 0 ∷ pos 0 ∷ pos 0 ∷ [] }
    ∷ record { degree = 2; x = pos 30 ∷ pos 31 ∷ pos 32 ∷ pos 0 ∷ pos 0 ∷ pos 0 ∷ []; y = pos 0 ∷ pos 18 ∷ pos 0 ∷ pos 0 ∷ pos 0 ∷ pos 0 ∷ [] }
    ∷ [])
unfolding outlined outline_from fault_at first_bad curve_at
read = refl
