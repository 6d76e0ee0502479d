-- The curve of a node, along its bits from the highest on. The loop's invariant: with i bits left, the curve so far is that of node >> i, which
-- is a node.
use mathlib.Core.Path.{◌≡◌}
use Prim.Native.Nat.{ℕ, ◌/◌, ◌^◌, ◌≤◌, ◌<◌}
use Rattle.curve_nodes.specs.declared.Curve.{Curve}
use Rattle.curve_nodes.specs.Nodes.{node_curve}
use Rattle.curve_nodes.proofs.node_curve.Given as goal

-- with i bits left
pub record Reached (root : Curve) (node : ℕ) (curve : Curve) (i : ℕ) : Type 0 where
  pub few : i ≤ 8
  pub some : 0 < node / 2 ^ i
  pub is : curve ≡ node_curve root (node / 2 ^ i)

abbrev pub invariant-loop-i : goal.invariant-loop-i
invariant-loop-i l = Reached l.initial.curve l.node l.curve l.i
