-- Laws of the tree of nodes, for any test of a node and any number of halvings: where the walk below a node ends, and induction over it.
use mathlib.Core.Path.{◌≡◌, refl, ap}
use mathlib.Core.Bool.{Bool, true, false}
use mathlib.Core.Logic.{◌⊎◌, inl, inr, ⊎_elim}
use mathlib.Core.List.{List, [], ◌∷◌, ◌++◌}
use Prim.Native.Nat.{ℕ, zero, suc, ◌+◌, ◌*◌}
use native.Mathlib.Omega.{arith}
use Rattle.walk_tree.specs.Tree.{ends}

pub either : (b : Bool) → (b ≡ true) ⊎ (b ≡ false)
either true = inl refl
either false = inr refl

pub not_both : {b : Bool} → b ≡ true → b ≡ false → ⊥
not_both e f = let z : ◌≡◌ {A = ℕ} 0 1 = cc in omega arith

module _ (test : ℕ → Bool) where
  pub ends_leaf : (k n : ℕ) → test n ≡ true → ends test k n ≡ n ∷ []
  unfolding ends
  ends_leaf zero n e = refl
  ends_leaf (suc k) n e = rw (e, ends)

  -- also with no halving left
  pub ends_here : (k n : ℕ) → (test n ≡ false → k ≡ 0) → ends test k n ≡ n ∷ []
  unfolding ends
  ends_here k n h = ⊎_elim (ends_leaf k n) (λ e. ap (λ k. ends test k n) (h e)) (either (test n))

  pub ends_halved : (k n : ℕ) → test n ≡ false → ends test (suc k) n ≡ ends test k (2 * n) ++ ends test k (2 * n + 1)
  unfolding ends
  ends_halved k n e = rw (e, ends)

  -- what holds of a node where the walk ends, and of one that is halved if it holds of its halves, holds of every node with the ends below it
  pub ends_induction : (P : ℕ → ℕ → List ℕ → Type 0)
      → ((k n : ℕ) → (test n ≡ false → k ≡ 0) → P k n (n ∷ []))
      → ((k n : ℕ) (ls rs : List ℕ) → test n ≡ false → P k (2 * n) ls → P k (2 * n + 1) rs → P (suc k) n (ls ++ rs))
      → (k n : ℕ) → P k n (ends test k n)
  unfolding ends
  ends_induction P here half zero n = here zero n (λ e. refl)
  ends_induction P here half (suc k) n = ⊎_elim
      (λ e. rw (ends_leaf (suc k) n e) (here (suc k) n (λ f. absurd (not_both e f))))
      (λ e. rw (ends_halved k n e)
      (half k n (ends test k (2 * n)) (ends test k (2 * n + 1)) e (ends_induction P here half k (2 * n)) (ends_induction P here half k (2 * n + 1))))
      (either (test n))
