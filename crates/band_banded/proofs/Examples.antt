-- Examples of banding beside the starred ones, by computation: what stands behind the records, two curves, the spots of 7, 8,
-- 18 and 19, a B-spline and the order of its checks, and a list that is left as it was.
use mathlib.Core.Path.{◌≡◌, refl}
use mathlib.Core.List.{List, [], ◌∷◌, ◌++◌}
use Prim.Native.Nat.{ℕ}
use lib.ListN.{replicate}
use lib.IntN.{ℤ, pos}
use Rattle.setting.specs.Setting.{standard, lists, limited}
use Rattle.refusals.specs.declared.Refusal.{Refusal}
use Rattle.refusals.specs.Refusals.{number_of, spot_of}
use Rattle.band_banded.specs.declared.banding.Banded.{Banded}
use Rattle.std.specs.Prelude.{Result, Ok, Err}
use Rattle.band_banded.specs.Banding.{done, banded, written, banded_spline, written_spline}
use Rattle.band_banded.proofs.Computing.{computing}

-- in the standard setting
abbrev answer : ℤ → List ℤ → ℕ → Result Banded Refusal
answer T ns room = banded standard T ns room

abbrev lent : ℤ → List ℤ → List ℤ → List ℤ
lent T ns old = written standard T ns old

-- number and spot of a refusal
abbrev refusal : Result Banded Refusal → ℕ × ℕ
refusal (Err r) = (number_of r, spot_of r)
refusal (Ok b) = (0, 0)

-- the numbers of a box
abbrev box : (a b c d : ℕ) → List ℤ
box a b c d = pos a ∷ pos b ∷ pos c ∷ pos d ∷ []

abbrev A : List ℤ
A = pos 3 ∷ pos 0 ∷ pos 0 ∷ pos 10 ∷ pos 30 ∷ pos 20 ∷ pos 30 ∷ pos 30 ∷ pos 0 ∷ []

abbrev line : List ℤ
line = pos 1 ∷ pos 0 ∷ pos 0 ∷ pos 0 ∷ pos 1 ∷ []

-- the line and back, and the line again
abbrev three_lines : List ℤ
three_lines = line ++ (pos 1 ∷ pos 0 ∷ pos 1 ∷ pos 0 ∷ pos 0 ∷ line)

abbrev tall : List ℤ
tall = pos 3 ∷ pos 0 ∷ pos 0 ∷ pos 0 ∷ pos 1048576 ∷ pos 0 ∷ pos 1048576 ∷ pos 0 ∷ pos 0 ∷ []

-- ---- A at T 44: the leaf of the listing; what stands behind it stays
pub a_44_record : lent (pos 44) A (replicate 20 (pos 7))
    ≡ pos 0 ∷ pos 1 ∷ box 0 0 0 38 ++ box 160 160 319 363 ++ box 320 320 319 363 ++ box 480 480 0 38 ++ (pos 7 ∷ pos 7 ∷ [])
unfolding computing
a_44_record = refl

-- ---- y 0, 18, 0 and the line 0, 1, as the first and the second curve of one outline
pub two_curves : lent (pos 17) (pos 2 ∷ pos 0 ∷ pos 0 ∷ pos 0 ∷ pos 18 ∷ pos 0 ∷ pos 0 ∷ line) (replicate 36 (pos 7))
    ≡ pos 0 ∷ pos 1 ∷ box 0 0 0 17 ++ box 0 0 127 144 ++ box 0 0 127 144 ++ box 0 0 0 17
    ++ (pos 1 ∷ pos 1 ∷ box 0 0 0 0 ++ box 0 0 5 6 ++ box 0 0 10 11 ++ box 0 0 16 16)
unfolding computing
two_curves = refl

-- ---- 7 of curve 1, before 8: its spot is 512 more
pub second_too_wide : refusal (answer (pos 2) (pos 1 ∷ pos 0 ∷ pos 1 ∷ pos 0 ∷ pos 0 ∷ tall) 0) ≡ (7, 768)
unfolding computing
second_too_wide = refl

-- ---- 18: no pieces, or nine; before 1 and 6
pub no_pieces : refusal (banded (lists 0) (pos 1) [] 0) ≡ (18, 0)
unfolding computing
no_pieces = refl

pub nine_pieces : refusal (banded (lists 9) (pos 1) [] 0) ≡ (18, 0)
unfolding computing
nine_pieces = refl

-- ---- 19: more leaves than the one that is taken; after 7 and before 8, and its spot is all of them
pub too_many : refusal (banded (limited 64 1 3) (pos 2) three_lines 0) ≡ (19, 3)
unfolding computing
too_many = refl

pub wide_before_many : refusal (banded (limited 64 1 3) (pos 2) (pos 1 ∷ pos 0 ∷ pos 1 ∷ pos 0 ∷ pos 0 ∷ tall) 0) ≡ (7, 768)
unfolding computing
wide_before_many = refl

pub as_many_as_taken : banded (limited 64 3 3) (pos 2) three_lines 54 ≡ done 3 3 3
unfolding computing
as_many_as_taken = refl

-- ---- 17: a curve that does not begin where the line ends, before 7
pub gap : refusal (answer (pos 2) (line ++ tall) 0) ≡ (17, 5)
unfolding computing
gap = refl

-- ---- the B-spline of A's points at T 9: its control points are (10 25), (40/3 30), (50/3 30) and (20 25)
abbrev points : List ℤ
points = pos 0 ∷ pos 0 ∷ pos 10 ∷ pos 30 ∷ pos 20 ∷ pos 30 ∷ pos 30 ∷ pos 0 ∷ []

pub spline_record : written_spline 3 (pos 9) points (replicate 20 (pos 7))
    ≡ pos 0 ∷ pos 1 ∷ box 160 160 400 407 ++ box 213 214 453 461 ++ box 266 267 453 461 ++ box 320 320 400 407 ++ (pos 7 ∷ pos 7 ∷ [])
unfolding computing
spline_record = refl

-- ---- 18 before 1, 1 before 24, 24 before 25, 25 before 8
pub spline_pieces_first : refusal (banded_spline 9 (pos 1) [] 0) ≡ (18, 0)
unfolding computing
spline_pieces_first = refl

pub spline_tolerance_before_length : refusal (banded_spline 3 (pos 1) [] 0) ≡ (1, 0)
unfolding computing
spline_tolerance_before_length = refl

pub spline_length_before_coordinate : refusal (banded_spline 3 (pos 2) (pos 131073 ∷ []) 0) ≡ (24, 1)
unfolding computing
spline_length_before_coordinate = refl

pub spline_coordinate_before_room : refusal (banded_spline 3 (pos 2) (replicate 7 (pos 131072) ++ (pos 131073 ∷ [])) 0) ≡ (25, 7)
unfolding computing
spline_coordinate_before_room = refl

-- ---- 8: one number short; its spot is the number of leaves, and the lent list stays as it was
pub too_few : refusal (answer (pos 43) A 35) ≡ (8, 2)
unfolding computing
too_few = refl

pub unaltered : lent (pos 43) A (replicate 35 (pos 7)) ≡ replicate 35 (pos 7)
unfolding computing
unaltered = refl
