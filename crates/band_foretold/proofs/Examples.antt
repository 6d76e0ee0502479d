-- Foretelling by computation: the sums, a curve without a depth, a list that is too short, and what stands in a list that is long enough.
use mathlib.Core.Path.{◌≡◌, refl}
use mathlib.Core.List.{List, [], ◌∷◌}
use mathlib.Core.Option.{none, some}
use lib.ListN.{replicate}
use lib.IntN.{ℤ, pos, negsuc}
use Rattle.std.specs.Prelude.{Err}
use Rattle.setting.specs.Setting.{lists}
use Rattle.refusals.specs.declared.Refusal.TheVariants.{TooFewRecords, Tolerance, Pieces}
use Rattle.band_foretold.specs.Foretelling.{told, foretell_depths, all_have, summed, foretold, depths_written}
use Rattle.band_foretold.proofs.Computing.{computing}

-- depths 0, 3 and 1: 1 + 8 + 2 leaves, 1 + 15 + 3 nodes
pub three_depths : foretell_depths 3 (some 0 ∷ some 3 ∷ some 1 ∷ []) ≡ told 11 19
unfolding foretell_depths all_have summed
three_depths = refl

pub one_has_none : foretell_depths 9 (some 0 ∷ none ∷ some 1 ∷ []) ≡ told 0 0
unfolding foretell_depths all_have summed
one_has_none = refl

pub two_lent : foretell_depths 2 (some 0 ∷ none ∷ some 1 ∷ []) ≡ Err (TooFewRecords 3)
unfolding foretell_depths all_have summed
two_lent = refl

-- ---- curve A, and the line on which it stands
abbrev pub bow : List ℤ
bow = pos 3 ∷ pos 0 ∷ pos 0 ∷ pos 10 ∷ pos 30 ∷ pos 20 ∷ pos 30 ∷ pos 30 ∷ pos 0 ∷ pos 1 ∷ pos 30 ∷ pos 0 ∷ pos 0 ∷ pos 0 ∷ []

pub bow_at_44 : foretold (lists 3) (pos 44) bow 2 ≡ told 3 4
unfolding computing
bow_at_44 = refl

pub bow_written : depths_written (lists 3) (pos 44) bow (replicate 4 (pos 7)) ≡ pos 1 ∷ pos 0 ∷ pos 7 ∷ pos 7 ∷ []
unfolding computing
bow_written = refl

-- at T 2 no line has a depth, and the arch has none either
pub bow_at_2 : depths_written (lists 3) (pos 2) bow (replicate 3 (pos 7)) ≡ negsuc 0 ∷ negsuc 0 ∷ pos 7 ∷ []
unfolding computing
bow_at_2 = refl

-- ---- refusals, and that they alter nothing
pub one_lent : foretold (lists 3) (pos 44) bow 1 ≡ Err (TooFewRecords 2)
unfolding computing
one_lent = refl

pub one_unaltered : depths_written (lists 3) (pos 44) bow (pos 7 ∷ []) ≡ pos 7 ∷ []
unfolding computing
one_unaltered = refl

pub pieces_first : foretold (lists 9) (pos 1) [] 0 ≡ Err Pieces
unfolding computing
pieces_first = refl

pub tolerance_next : foretold (lists 8) (pos 1) [] 0 ≡ Err Tolerance
unfolding computing
tolerance_next = refl
