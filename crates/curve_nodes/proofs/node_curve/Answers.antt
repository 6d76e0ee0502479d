-- The curve of a node, along its bits from the highest on. The loop's invariant: with i bits left, the curve so far is that of node >> i, which
-- is a node. The measure is i.
use mathlib.Core.Path.{◌≡◌, sym, ◌∙◌, ap}
use Prim.Native.Nat.{ℕ, suc, ◌+◌, ◌-◌, ◌*◌, ◌/◌, ◌%◌, ◌^◌, ◌<◌}
use native.Mathlib.Nat.{le_trans, lt_of_le_of_lt, div-le_self, div-one}
use native.Mathlib.Omega.{arith}
use Rattle.setting.specs.Setting.{deepest}
use Rattle.setting.proofs.Depths.{deepest_most}
use Rattle.curve_nodes.specs.declared.Curve.{Curve}
use Rattle.curve_nodes.specs.Nodes.{half_of, node_curve}
use Rattle.curve_nodes.specs.Inside.{Halvable}
use Rattle.curve_nodes.specs.Bounds.{Sized}
use Rattle.curve_nodes.proofs.Numbers.{depth_bit, next_bit, depth_under, node_one, node_half}
use Rattle.curve_nodes.proofs.Sizes.{node_halvable}
use Rattle.curve_nodes.proofs.node_curve.Invariants.{Reached}
use Rattle.curve_nodes.proofs.node_curve.Goals as goal

module _ {root : Curve} {node : ℕ} {curve : Curve} {i : ℕ} (r : Reached root node curve i) where
  reached-halvable : Sized 0 root → node < 2 ^ suc (deepest root.degree) → Halvable curve
  reached-halvable h l = rw r.is (node_halvable h (node / 2 ^ i) r.some (lt_of_le_of_lt (div-le_self node (2 ^ i)) l))

  -- one bit on, to the half that it names
  reached_half : (b : ℕ) → 0 < i → b < 2 → node / 2 ^ (i - 1) % 2 ≡ b → Reached root node (half_of b curve) (i - 1)
  reached_half b h l bit =
      let e : 2 * (node / 2 ^ i) + b ≡ node / 2 ^ (i - 1) = omega (arith, next_bit node i h) in record {
        few = omega arith;
        some = omega arith;
        is = ap (half_of b) r.is ∙ sym (node_half root (node / 2 ^ i) b r.some l) ∙ ap (node_curve root) e;
      }

pub loop-i-init : goal.loop-i-init
loop-i-init c =
    let root = c.args.root in
    let node = c.args.node in
    let top = depth_bit node c.requires.0 in
    rw c.depth-i.ensures (record {
      few = le_trans (depth_under node (deepest root.degree) c.requires.0 c.requires.1) (deepest_most root.degree);
      some = omega arith;
      is = sym (node_one root) ∙ ap (node_curve root) (sym top);
    })

pub left-curve-requires : goal.left-curve-requires
left-curve-requires c =
    let p = c.requires in
    reached-halvable c.loop-i.invariant p.2 p.1

pub loop-i-preserved-then-node-i-eq0 : goal.loop-i-preserved-then-node-i-eq0
loop-i-preserved-then-node-i-eq0 c = rw c.left-curve.ensures (reached_half c.loop-i.invariant 0 (omega arith) (omega arith) c.if-node-i-eq0.true)

pub right-curve-requires : goal.right-curve-requires
right-curve-requires c =
    let p = c.requires in
    reached-halvable c.loop-i.invariant p.2 p.1

pub loop-i-preserved : goal.loop-i-preserved
loop-i-preserved c = rw c.right-curve.ensures (reached_half c.loop-i.invariant 1 (omega arith) (omega arith) (omega arith))

pub returns : goal.returns
returns c =
    let root = c.args.root in
    let node = c.args.node in
    let e : c.loop-i.i ≡ 0 = omega arith in
    c.loop-i.invariant.is ∙ ap (λ (i : ℕ). node_curve root (node / 2 ^ i)) e ∙ ap (node_curve root) (div-one node)

pub overflow_shr-node : goal.overflow_shr-node
overflow_shr-node c = omega arith

pub loop-i-smaller-then-node-i-eq0 : goal.loop-i-smaller-then-node-i-eq0
loop-i-smaller-then-node-i-eq0 c = omega arith

pub loop-i-smaller : goal.loop-i-smaller
loop-i-smaller c = omega arith
