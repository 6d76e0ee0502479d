-- What foretelling answers in a setting, and what it leaves in the caller's list (request 09).
use Rattle.std.specs.Prelude.{Bool, true, false, cond, List, [], ◌∷◌, ◌++◌, ℕ, ◌+◌, ◌-◌, ◌^◌, ltb, length}
use Rattle.std.specs.Prelude.{drop, ℤ, pos, negsuc, Result, Ok, Err}
use Rattle.std.proofs.Math.Option.{Option, none, some}
use Rattle.setting.specs.Setting.{Setting, pieces_fine}
use Rattle.refusals.specs.declared.Refusal.{Refusal}
use Rattle.refusals.specs.declared.Refusal.TheVariants.{Tolerance, TooFewRecords, Pieces}
use Rattle.curve_nodes.specs.declared.Curve.{Curve}
use Rattle.outline.specs.Checks.{tolerance_fine, Outlined, curves, faulty, outlined}
use Rattle.walk_depths.specs.Depth.{depth_of}
use Rattle.band_passes.specs.Leaves.{curves_of}
use Rattle.band_foretold.specs.declared.foretelling.Foretold.{Foretold}

-- ---- the depths of curves, and as the numbers that are written: −1 where a curve has none
unfoldable pub depths_of : Setting → ℤ → List Curve → List (Option ℕ)
depths_of σ T [] = []
depths_of σ T (c ∷ cs) = depth_of σ T c ∷ depths_of σ T cs

abbrev pub depth_number : Option ℕ → ℤ
depth_number none = negsuc 0
depth_number (some j) = pos j

unfoldable pub depth_numbers : List (Option ℕ) → List ℤ
depth_numbers [] = []
depth_numbers (o ∷ os) = depth_number o ∷ depth_numbers os

-- ---- the sums
-- every curve has a depth
unfoldable pub all_have : List (Option ℕ) → Bool
all_have [] = true
all_have (none ∷ os) = false
all_have (some j ∷ os) = all_have os

-- f of each depth, added up
unfoldable pub summed : (ℕ → ℕ) → List (Option ℕ) → ℕ
summed f [] = 0
summed f (none ∷ os) = summed f os
summed f (some j ∷ os) = f j + summed f os

-- the most leaves and nodes of a curve of depth j
abbrev pub leaves_within : ℕ → ℕ
leaves_within j = 2 ^ j

abbrev pub nodes_within : ℕ → ℕ
nodes_within j = 2 ^ (j + 1) - 1

-- 0 for both where any curve has none
abbrev pub leaves_foretold : List (Option ℕ) → ℕ
leaves_foretold os = cond (all_have os) (summed leaves_within os) 0

abbrev pub nodes_foretold : List (Option ℕ) → ℕ
nodes_foretold os = cond (all_have os) (summed nodes_within os) 0

-- a leaves and b nodes are foretold
abbrev pub told : (a b : ℕ) → Result Foretold Refusal
told a b = Ok (record { leaves = a; nodes = b })

-- ---- the answer, with `room` numbers lent: 18, 1, the outline's fault, 8, the sums
unfoldable pub foretell_depths : (room : ℕ) → List (Option ℕ) → Result Foretold Refusal
foretell_depths room os =
    elim (ltb room (length os)) [
      | true ↦ Err (TooFewRecords (length os))
      | false ↦ told (leaves_foretold os) (nodes_foretold os)
    ]

abbrev pub foretell_outlined : Setting → ℤ → Outlined → ℕ → Result Foretold Refusal
foretell_outlined σ T (faulty r) room = Err r
foretell_outlined σ T (curves cs) room = foretell_depths room (depths_of σ T cs)

unfoldable pub foretold : Setting → ℤ → List ℤ → ℕ → Result Foretold Refusal
foretold σ T ns room =
    elim (pieces_fine σ.pieces) [
      | false ↦ Err Pieces
      | true ↦
          elim (tolerance_fine T) [
            | false ↦ Err Tolerance
            | true ↦ foretell_outlined σ T (outlined σ.most σ.pieces ns) room
          ]
    ]

-- ---- the caller's list afterwards: a number for each curve, then the rest as it was; a refusal alters nothing
abbrev pub numbers_written : Result Foretold Refusal → List ℤ → List ℤ → List ℤ
numbers_written (Err r) numbers old = old
numbers_written (Ok f) numbers old = numbers ++ drop (length numbers) old

unfoldable pub depths_written : Setting → ℤ → List ℤ → List ℤ → List ℤ
depths_written σ T ns old =
    numbers_written (foretold σ T ns (length old))
    (depth_numbers (depths_of σ T (curves_of (outlined σ.most σ.pieces ns)))) old
