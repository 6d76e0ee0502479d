-- Exchanging by computation, with one piece: a line for a line, the order of the checks, and the spots of 22, 23 and of the changed outline's own.
use mathlib.Core.Path.{◌≡◌, refl}
use mathlib.Core.List.{List, [], ◌∷◌, ◌++◌}
use Prim.Native.Nat.{ℕ}
use lib.ListN.{replicate}
use lib.IntN.{ℤ, pos}
use Rattle.setting.specs.Setting.{lists}
use Rattle.refusals.specs.declared.Refusal.{Refusal}
use Rattle.refusals.specs.declared.Refusal.TheVariants.{Degree, NoSuchCurve, OtherRecords, Gap}
use Rattle.band_banded.specs.declared.banding.Banded.{Banded}
use Rattle.std.specs.Prelude.{Result, Err}
use Rattle.band_banded.specs.Banding.{done}
use Rattle.band_exchanged.specs.Exchange.{exchanged, exchanged_list}
use Rattle.band_exchanged.proofs.Computing.{computing}

-- ---- the line from (0 0) to (0 1), and one from there to (0 3)
abbrev first : List ℤ
first = pos 1 ∷ pos 0 ∷ pos 0 ∷ pos 0 ∷ pos 1 ∷ []

abbrev both : List ℤ
both = first ++ (pos 1 ∷ pos 0 ∷ pos 1 ∷ pos 0 ∷ pos 3 ∷ [])

-- the record of curve k, a line from (0 a) to (0 b) in sixteenths
abbrev line : (k a b : ℕ) → List ℤ
line k a b = pos k ∷ pos 1 ∷ pos 0 ∷ pos 0 ∷ pos a ∷ pos a ∷ pos 0 ∷ pos 0 ∷ pos b ∷ pos b ∷ []

-- a list with these records in front of two sevens
abbrev lent : List ℤ
lent = line 0 0 16 ++ (line 1 16 48 ++ (pos 7 ∷ pos 7 ∷ []))

-- the line from (0 0) to (0 2), with points past its degree that are not read, and that from (0 1) to (0 2)
abbrev longer : List ℤ
longer = pos 1 ∷ pos 0 ∷ pos 0 ∷ pos 0 ∷ pos 2 ∷ replicate 8 (pos 2000000000)

abbrev shorter : List ℤ
shorter = pos 1 ∷ pos 0 ∷ pos 1 ∷ pos 0 ∷ pos 2 ∷ replicate 8 (pos 0)

-- two lines by a curve of degree 2
abbrev bent : List ℤ
bent = pos 2 ∷ pos 0 ∷ pos 0 ∷ pos 0 ∷ pos 1 ∷ pos 0 ∷ pos 2 ∷ replicate 6 (pos 0)

abbrev answer : (number : ℕ) → List ℤ → (count : ℕ) → List ℤ → Result Banded Refusal
answer number new count l = exchanged (lists 1) (pos 40) both number new count l

-- ---- the second gives way: its record is written anew, and what stands behind stays
pub second_exchanged : answer 1 shorter 20 lent ≡ done 2 2 2
unfolding computing
second_exchanged = refl

pub second_written : exchanged_list (lists 1) (pos 40) both 1 shorter 20 lent ≡ line 0 0 16 ++ (line 1 16 32 ++ (pos 7 ∷ pos 7 ∷ []))
unfolding computing
second_written = refl

-- ---- 17 of the curve after, whose index in the changed outline is that of a longer curve's end
pub gap_after : answer 0 longer 20 lent ≡ Err (Gap 5)
unfolding computing
gap_after = refl

pub gap_after_more_points : answer 0 bent 20 lent ≡ Err (Gap 7)
unfolding computing
gap_after_more_points = refl

-- ---- the old outline's own refusal before 22 and 23: a degree of 9
pub old_first : exchanged (lists 1) (pos 40) (pos 9 ∷ []) 2 longer 19 lent ≡ Err (Degree 0)
unfolding computing
old_first = refl

-- ---- 22 before 23, and 23 before the changed outline's own
pub no_such_curve : answer 2 longer 19 lent ≡ Err (NoSuchCurve 2)
unfolding computing
no_such_curve = refl

pub one_short : answer 0 longer 19 lent ≡ Err (OtherRecords 19)
unfolding computing
one_short = refl

pub one_long : answer 0 longer 21 lent ≡ Err (OtherRecords 20)
unfolding computing
one_long = refl

-- where numbers differ, the first index at which they do; numbers past the count do not
pub altered : answer 1 shorter 20 (line 0 0 17 ++ line 1 16 48) ≡ Err (OtherRecords 8)
unfolding computing
altered = refl

pub past_the_count : answer 1 shorter 8 (line 0 0 17 ++ line 1 16 48) ≡ Err (OtherRecords 8)
unfolding computing
past_the_count = refl

-- the list ends before the count
pub list_short : answer 1 shorter 20 (line 0 0 16) ≡ Err (OtherRecords 10)
unfolding computing
list_short = refl

pub unaltered : exchanged_list (lists 1) (pos 40) both 0 longer 20 lent ≡ lent
unfolding computing
unaltered = refl
