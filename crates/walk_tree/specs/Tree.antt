-- Where the walk of a curve's nodes ends (document 01, "Enclosure rows"), by recursion on the tree of nodes. Nothing
-- here fixes the test of a node or how many halvings are left.
use Rattle.std.specs.Prelude.{Bool, true, false, List, [], ◌∷◌, ◌++◌, ℕ, zero, suc, ◌+◌, ◌*◌}
use Rattle.std.proofs.Math.Option.{Option, none, some}

-- The nodes at which the walk from n ends, n included, in the order of their parameters: a node that passes the test is
-- a leaf; otherwise it is halved, or, with no halving left, it is one that is still too wide.
unfoldable pub ends : (ℕ → Bool) → ℕ → ℕ → List ℕ
ends test zero n = n ∷ []
ends test (suc k) n = elim (test n) [ true ↦ n ∷ [] | false ↦ ends test k (2 * n) ++ ends test k (2 * n + 1) ]

-- how many nodes the walk from n visits, n included
unfoldable pub met : (ℕ → Bool) → ℕ → ℕ → ℕ
met test zero n = 1
met test (suc k) n = elim (test n) [ true ↦ 1 | false ↦ 1 + met test k (2 * n) + met test k (2 * n + 1) ]

-- the first of the nodes that does not pass
unfoldable pub first_failing : (ℕ → Bool) → List ℕ → Option ℕ
first_failing test [] = none
first_failing test (n ∷ ns) = elim (test n) [ true ↦ first_failing test ns | false ↦ some n ]
