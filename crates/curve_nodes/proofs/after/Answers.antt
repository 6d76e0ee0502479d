-- The node after a leaf: the number that follows, shifted by its trailing zeros.
use Prim.Native.Nat.{◌+◌}
use native.Mathlib.Omega.{arith}
use Rattle.curve_nodes.proofs.Numbers.{trailing_below, after_shifted}
use Rattle.curve_nodes.proofs.after.Goals as goal

pub overflow_shr-result : goal.overflow_shr-result
overflow_shr-result c = trailing_below 32 (c.args.node + 1) (omega arith) (omega arith)

pub returns : goal.returns
returns c = after_shifted 32 c.args.node (omega arith)
