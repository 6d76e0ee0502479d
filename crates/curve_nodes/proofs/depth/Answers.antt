-- The depth of a node: 31 less the zeros above its highest one bit, whose bits are those of the zeros turned over.
use mathlib.Core.Path.{◌≡◌, sym, ◌∙◌}
use Prim.Native.Nat.{ℕ, ◌-◌, ◌<◌}
use native.Mathlib.Omega.{arith}
use lib.Bits.{bit_xor}
use lib.Count.{count_leading_zeros, leading_top}
use lib.Dec.{T, eqb, eqb→eq}
use Rattle.integers.proofs.Table.{every_below, below}
use Rattle.curve_nodes.proofs.Numbers.{depth_unique}
use Rattle.curve_nodes.proofs.depth.Goals as goal

-- five bits turned over, by computing
turned-tested : T (every_below 32 (λ n. eqb (bit_xor n 31) (31 - n)))
turned-tested = tt

turned : (n : ℕ) → n < 32 → bit_xor n 31 ≡ 31 - n
turned n h = eqb→eq (bit_xor n 31) (31 - n) (below 32 (λ n. eqb (bit_xor n 31) (31 - n)) turned-tested n h)

pub returns : goal.returns
returns c =
    let t = leading_top 32 c.args.node c.requires c.ranges.node.fits in
    let l : count_leading_zeros 32 c.args.node < 32 = omega (arith, t.1) in
    let e : 31 - count_leading_zeros 32 c.args.node ≡ t.0 = omega (arith, t.1) in
    turned (count_leading_zeros 32 c.args.node) l ∙ e ∙ sym (depth_unique c.args.node t.0 t.2 t.3)
