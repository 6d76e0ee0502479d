-- A walk of a curve, part by part: where it stands after the leaves that it has passed, and that each step leads nearer to the end.
use mathlib.Core.Path.{◌≡◌, ◌∙◌}
use mathlib.Core.Bool.{true, false}
use mathlib.Core.List.{List, [], ◌∷◌, ◌++◌}
use Prim.Native.Nat.{ℕ, ◌^◌, ◌<◌}
use lib.IntN.{ℤ}
use Rattle.setting.specs.Setting.{Setting, deepest}
use Rattle.curve_nodes.specs.declared.Curve.{Curve}
use Rattle.curve_nodes.specs.Bounds.{Sized}
use Rattle.walk_tree.proofs.Rank.{rank}
use Rattle.walk_tree.proofs.Walking.{Walking, walking_start, walking_half, walking_leaf, half_falls, leaf_falls}
use Rattle.walk_curve.specs.declared.Part.{Part}
use Rattle.walk_curve.specs.Inside.{PartOf, left_part, AfterOf}
use Rattle.walk_curve.specs.Walked.{node_meets}
use Rattle.walk_curve.proofs.Parts.{part, part_whole, part_left}

-- how far part p is from the end of the walk of curve c
abbrev pub part_rank : Curve → Part → ℕ
part_rank c p = rank (deepest c.degree) p.node

-- the walk of curve c stands at part p, and has passed these leaves
pub record WalkOf (σ : Setting) (T : ℤ) (c : Curve) (passed : List ℕ) (p : Part) : Type 0 where
  pub walking : Walking (node_meets σ T c) (deepest c.degree) passed p.node
  pub of : PartOf c p

module _ {σ : Setting} {T : ℤ} {c : Curve} where
  pub walk_start : Sized 0 c → WalkOf σ T c [] (part 1 c)
  walk_start h = record { walking = walking_start (node_meets σ T c) (deepest c.degree); of = part_whole h }

  module _ {passed : List ℕ} {p : Part} (w : WalkOf σ T c passed p) where
    pub walk_left : node_meets σ T c p.node ≡ false → p.node < 2 ^ deepest c.degree → WalkOf σ T c passed (left_part p)
    walk_left e l = record { walking = walking_half w.walking e l; of = part_left w.of l }

    pub left_falls : p.node < 2 ^ deepest c.degree → part_rank c (left_part p) < part_rank c p
    left_falls = half_falls w.walking

    module _ {r : Part} (a : AfterOf p r) (more : r.node ≡ 1 → ⊥) where
      pub walk_after : node_meets σ T c p.node ≡ true → WalkOf σ T c (passed ++ p.node ∷ []) r
      walk_after e = record { walking = rw a.node (walking_leaf w.walking e (λ o. more (a.node ∙ o))); of = a.of w.of more }

      pub after_falls : part_rank c r < part_rank c p
      after_falls = rw a.node (leaf_falls w.walking (λ o. more (a.node ∙ o)))
