-- The leaves of an outline's curves: check 7, and how many leaves and nodes the curves have (document 01).
use Rattle.std.specs.Prelude.{List, [], ◌∷◌, ℕ, suc, ◌+◌, length, ℤ}
use Rattle.std.proofs.Math.Option.{Option, none, some}
use Rattle.setting.specs.Setting.{Setting, deepest}
use Rattle.refusals.specs.declared.Refusal.{Refusal}
use Rattle.refusals.specs.declared.Refusal.TheVariants.{TooWide}
use Rattle.curve_nodes.specs.declared.Curve.{Curve}
use Rattle.outline.specs.Checks.{Outlined, curves, faulty}
use Rattle.walk_tree.specs.Tree.{met, first_failing}
use Rattle.walk_curve.specs.Walked.{node_meets, ends_of}

-- ---- the curves of an outline
abbrev pub curves_of : Outlined → List Curve
curves_of (curves cs) = cs
curves_of (faulty r) = []

-- ---- 7: the first node at the last depth, in the order of the walk, that does not meet T; of the curves numbered from
-- k on
unfoldable pub first_too_wide : Setting → ℤ → ℕ → List Curve → Option Refusal
first_too_wide σ T k [] = none
first_too_wide σ T k (c ∷ cs) =
    elim (first_failing (node_meets σ T c) (ends_of σ T c)) [
      | some n ↦ some (TooWide k n)
      | none ↦ first_too_wide σ T (suc k) cs
    ]

-- ---- the report: how many leaves and nodes. Where 7 is not answered, every end of a walk is a leaf.
unfoldable pub leaves_of : Setting → ℤ → List Curve → ℕ
leaves_of σ T [] = 0
leaves_of σ T (c ∷ cs) = length (ends_of σ T c) + leaves_of σ T cs

unfoldable pub nodes_of : Setting → ℤ → List Curve → ℕ
nodes_of σ T [] = 0
nodes_of σ T (c ∷ cs) = met (node_meets σ T c) (deepest c.degree) 1 + nodes_of σ T cs
