-- The leaf theorem: the ends of the walk that pass are exactly the leaves that at most k halvings lead to; where every end passes, they are all leaves.
use mathlib.Core.Path.{◌≡◌}
use mathlib.Core.Bool.{Bool, true}
use mathlib.Core.Logic.{◌↔◌}
use mathlib.Core.List.{Memᴰ}
use Prim.Native.Nat.{ℕ, ◌≤◌}
use Rattle.curve_nodes.specs.Nodes.{depth}
use Rattle.walk_tree.specs.Tree.{ends}
use Rattle.walk_tree.specs.Leaves.{Leaf}
use Rattle.walk_tree.specs.Passing.{AllPass}
use Rattle.walk_tree.proofs.Ends.{end_leaf, leaf_end, leaf_within}
pub use Rattle.walk_tree.proofs.Ends.{above, end_below, end_facts, first_end}

module _ (test : ℕ → Bool) (k n : ℕ) where
  pub leaf_exactly : (Memᴰ n (ends test k 1) × (test n ≡ true)) ↔ (Leaf test n × (depth n ≤ k))
  leaf_exactly = (λ h. (end_leaf test k n h.0 h.1, (end_facts test k n h.0).within), λ h. (leaf_end test k n h.0 h.1, h.0.passes))

  -- where the walk finds nothing too wide, its ends are exactly the leaves, of any depth
  pub all_leaves : AllPass test (ends test k 1) → Memᴰ n (ends test k 1) ↔ Leaf test n
  all_leaves h = (λ i. end_leaf test k n i (h.each n i), λ l. leaf_end test k n l (leaf_within test k n h l))
