-- How many nodes the walk of an outline meets and how many leaves it has: nodes = 2 × leaves − curves.
use mathlib.Core.Path.{◌≡◌, refl}
use mathlib.Core.List.{List, [], ◌∷◌}
use Prim.Native.Nat.{◌+◌, ◌*◌, ◌≤◌}
use native.Mathlib.Omega.{arith}
use lib.ListN.{length}
use lib.IntN.{ℤ}
use Rattle.setting.specs.Setting.{Setting, deepest}
use Rattle.setting.proofs.Depths.{deepest_few}
use Rattle.curve_nodes.specs.declared.Curve.{Curve}
use Rattle.walk_curve.specs.Walked.{node_meets}
use Rattle.band_passes.specs.Leaves.{leaves_of, nodes_of}
use Rattle.walk_tree.proofs.Counting.{nodes_met, few_ends}

pub nodes_of_curves : (σ : Setting) (T : ℤ) (cs : List Curve) → nodes_of σ T cs + length cs ≡ 2 * leaves_of σ T cs
unfolding nodes_of leaves_of
nodes_of_curves σ T [] = refl
nodes_of_curves σ T (c ∷ cs) = omega (arith, nodes_met (node_meets σ T c) (deepest c.degree) 1, nodes_of_curves σ T cs)

-- at most 256 leaves a curve
pub few_leaves : (σ : Setting) (T : ℤ) (cs : List Curve) → leaves_of σ T cs ≤ 256 * length cs
unfolding leaves_of
few_leaves σ T [] = omega arith
few_leaves σ T (c ∷ cs) = omega (arith, few_ends (node_meets σ T c) (deepest c.degree) 1, deepest_few c.degree, few_leaves σ T cs)
