-- How many nodes the walk meets and how many ends it has: nodes = 2 × leaves − 1.
use mathlib.Core.Path.{◌≡◌, refl, ap}
use mathlib.Core.Bool.{Bool, true, false}
use mathlib.Core.Logic.{⊎_elim}
use Prim.Native.Nat.{ℕ, zero, suc, ◌+◌, ◌*◌, ◌^◌, ◌≤◌, ◌<◌}
use native.Mathlib.Nat.{pow-suc}
use native.Mathlib.Omega.{arith}
use lib.ListN.{length, length-append}
use lib.Pow.{pow_pos}
use Rattle.walk_tree.specs.Tree.{ends, met}
use Rattle.walk_tree.proofs.Tree.{either, ends_induction}

module _ (test : ℕ → Bool) where
  met_leaf : (k n : ℕ) → test n ≡ true → met test k n ≡ 1
  unfolding met
  met_leaf zero n e = refl
  met_leaf (suc k) n e = rw (e, met)

  met_here : (k n : ℕ) → (test n ≡ false → k ≡ 0) → met test k n ≡ 1
  unfolding met
  met_here k n h = ⊎_elim (λ e. met_leaf k n e) (λ e. ap (λ (k : ℕ). met test k n) (h e)) (either (test n))

  met_halved : (k n : ℕ) → test n ≡ false → met test (suc k) n ≡ 1 + met test k (2 * n) + met test k (2 * n + 1)
  unfolding met
  met_halved k n e = rw (e, met)

  pub nodes_met : (k n : ℕ) → met test k n + 1 ≡ 2 * length (ends test k n)
  nodes_met = ends_induction test (λ k n ns. met test k n + 1 ≡ 2 * length ns)
      (λ k n h. rw (met_here k n h))
      (λ k n ls rs e l r. rw (met_halved k n e, length-append) (omega arith))

  pub some_end : (k n : ℕ) → 0 < length (ends test k n)
  some_end = ends_induction test (λ k n ns. 0 < length ns) (λ k n h. omega arith) (λ k n ls rs e l r. rw length-append (omega arith))

  pub few_ends : (k n : ℕ) → length (ends test k n) ≤ 2 ^ k
  few_ends = ends_induction test (λ k n ns. length ns ≤ 2 ^ k)
      (λ k n h. pow_pos k)
      (λ k n ls rs e l r. rw length-append (omega (arith, pow-suc 2 k)))
