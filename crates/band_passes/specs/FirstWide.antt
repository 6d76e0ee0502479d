-- What the theorems of banding speak of: curves whose ends all meet T, and the first that does not. No contract cites
-- these.
use Rattle.std.specs.Prelude.{◌≡◌, false, ℕ, ◌+◌, length, ℤ}
use mathlib.Core.List.{List, ◌∷◌, ◌++◌, Memᴰ}
use Rattle.setting.specs.Setting.{Setting, deepest}
use Rattle.curve_nodes.specs.declared.Curve.{Curve}
use Rattle.curve_nodes.specs.Nodes.{depth}
use Rattle.walk_tree.specs.Leaves.{Ancestor}
use Rattle.walk_tree.specs.Passing.{AllPass, First}
use Rattle.walk_curve.specs.Walked.{node_meets, ends_of}

-- every end of every curve meets T
pub record AllMeet (σ : Setting) (T : ℤ) (cs : List Curve) : Type 0 where
  pub each : (c : Curve) → Memᴰ c cs → AllPass (node_meets σ T c) (ends_of σ T c)

-- Of the curves numbered from s on, number k is the first with an end that does not meet T, and n is its first such
-- end: a node at the last depth that the walk reaches, since it halves every node above it.
pub record FirstWide (σ : Setting) (T : ℤ) (s : ℕ) (cs : List Curve) (k n : ℕ) : Type 0 where
  pub front : List Curve
  pub curve : Curve
  pub rest : List Curve
  pub split : cs ≡ front ++ curve ∷ rest
  pub number : s + length front ≡ k
  pub before : AllMeet σ T front
  pub first : First (node_meets σ T curve) (ends_of σ T curve) n
  pub last : depth n ≡ deepest curve.degree
  pub reached : (a : ℕ) → Ancestor a n → node_meets σ T curve a ≡ false
