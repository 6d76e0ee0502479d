-- For contracts inside the engine alone, no part of a public promise: where a walk stands, its steps, and what the walk
-- of a curve finds. A part of a curve is one of its nodes, with the node's own curve.
use Rattle.std.specs.Prelude.{◌≡◌, true, false, ℕ, suc, ◌*◌, ◌^◌, ◌<◌, length, ℤ, Result, Ok, Err}
use Rattle.std.proofs.Math.Option.{none, some}
use Rattle.setting.specs.Setting.{Setting, degree_pieces, deepest}
use Rattle.curve_nodes.specs.declared.Curve.{Curve}
use Rattle.curve_nodes.specs.Bounds.{Sized}
use Rattle.curve_nodes.specs.Halves.{left_half}
use Rattle.curve_nodes.specs.Nodes.{node_curve, after}
use Rattle.walk_tree.specs.Tree.{first_failing}
use Rattle.walk_curve.specs.declared.Part.{Part}
use Rattle.walk_curve.specs.Walked.{node_meets, ends_of}

-- a setting has what a curve of degree d needs: as many pieces as it takes, and whole control values at degrees 4 and 5
pub record Suits (σ : Setting) (d : ℕ) : Type 0 where
  pub takes : degree_pieces d σ.pieces ≡ true
  pub units : 3 < d → σ.sixths ≡ false

-- p is a part of the curve `root`, and no deeper than its nodes go
pub record PartOf (root : Curve) (p : Part) : Type 0 where
  pub sized : Sized 0 root
  pub some : 0 < p.node
  pub deep : p.node < 2 ^ suc (deepest root.degree)
  pub is : p.curve ≡ node_curve root p.node

-- p is a part of some curve
abbrev pub Standing : Part → Type 0
Standing p = (root : Curve) × PartOf root p

-- the left half of p
abbrev pub left_part : Part → Part
left_part p = record { node = 2 * p.node; curve = left_half p.curve }

-- r is the part after p, in every curve that p is a part of. After the last one its node is 1 and its curve p's still.
pub record AfterOf (p r : Part) : Type 0 where
  pub node : r.node ≡ after p.node
  pub of : {root : Curve} → PartOf root p → (r.node ≡ 1 → ⊥) → PartOf root r
  pub end : r.node ≡ 1 → r.curve ≡ p.curve

-- the first node at the last depth that does not meet T, or else how many leaves the curve has
unfoldable pub walked_of : Setting → ℤ → Curve → Result ℕ ℕ
walked_of σ T c =
    elim (first_failing (node_meets σ T c) (ends_of σ T c)) [
      | some n ↦ Err n
      | none ↦ Ok (length (ends_of σ T c))
    ]
