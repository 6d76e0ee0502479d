-- The parameter of the weights a and b on piece i of m: at a node, and at node 1 where the node is n.
use Prim.Native.Nat.{ℕ, suc, ◌+◌, ◌*◌, ◌-◌}
use Rattle.curve_nodes.specs.Nodes.{start}
use Rattle.curve_nodes.proofs.Spans.{remaining}

abbrev pub at_p : ℕ → ℕ → ℕ → ℕ
at_p i a b = a * i + b * suc i

abbrev pub at_r : ℕ → ℕ → ℕ → ℕ → ℕ
at_r m i a b = a * (m - i) + b * (m - suc i)

abbrev pub up_p : ℕ → ℕ → ℕ → ℕ → ℕ → ℕ
up_p m n i a b = start n * (at_p i a b + at_r m i a b) + at_p i a b

abbrev pub up_r : ℕ → ℕ → ℕ → ℕ → ℕ → ℕ
up_r m n i a b = remaining n * (at_p i a b + at_r m i a b) + at_r m i a b
