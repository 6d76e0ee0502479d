-- Laws of node numbers: what is at node 2n + b from what is at node n, and induction over the nodes.
use mathlib.Core.Path.{◌≡◌, refl, sym, ◌∙◌, ap, subst}
use mathlib.Core.Bool.{Bool, true, false}
use mathlib.Core.Logic.{⊎_elim}
use Prim.Native.Nat.{ℕ, zero, suc, ◌+◌, ◌*◌, ◌/◌, ◌%◌, ◌≤◌, ◌<◌}
use native.Mathlib.Nat.{le_refl}
use native.Mathlib.Omega.{arith}
use borrow.Author.Tests.{lt-ltb, le-ltb}
use Rattle.integers.proofs.Order.{lt_or_ge}
use Rattle.curve_nodes.specs.Nodes.{descend_in, descend}

module _ {A : Type 0} (top : A) (half : ℕ → A → A) where
  in_small : (fuel n : ℕ) → n < 2 → descend_in fuel top half n ≡ top
  unfolding descend_in
  in_small zero n h = refl
  in_small (suc fuel) n h =
      ap (λ (b : Bool). elim b as (λ _. A) [ true ↦ top | false ↦ half (n % 2) (descend_in fuel top half (n / 2)) ]) (lt-ltb n 2 h)

  in_large : (fuel n : ℕ) → 2 ≤ n → descend_in (suc fuel) top half n ≡ half (n % 2) (descend_in fuel top half (n / 2))
  unfolding descend_in
  in_large fuel n h = ap (λ (b : Bool). elim b as (λ _. A) [ true ↦ top | false ↦ half (n % 2) (descend_in fuel top half (n / 2)) ]) (le-ltb n 2 h)

  -- any fuel that is at least n gives the same
  enough : (f g n : ℕ) → n ≤ f → n ≤ g → descend_in f top half n ≡ descend_in g top half n
  enough zero g n hf hg = in_small zero n (omega arith) ∙ sym (in_small g n (omega arith))
  enough (suc f) zero n hf hg = in_small (suc f) n (omega arith) ∙ sym (in_small zero n (omega arith))
  enough (suc f) (suc g) n hf hg = ⊎_elim
      (λ l. in_small (suc f) n l ∙ sym (in_small (suc g) n l))
      (λ l. in_large f n l ∙ ap (half (n % 2)) (enough f g (n / 2) (omega arith) (omega arith)) ∙ sym (in_large g n l))
      (lt_or_ge n 2)

  pub descend_one : descend top half 1 ≡ top
  unfolding descend
  descend_one = in_small 1 1 (omega arith)

  pub descend_half : (n b : ℕ) → 0 < n → b < 2 → descend top half (2 * n + b) ≡ half b (descend top half n)
  unfolding descend
  descend_half n b hn hb =
      let d : (2 * n + b) / 2 ≡ n = omega arith in
      let m : (2 * n + b) % 2 ≡ b = omega arith in
      enough (2 * n + b) (suc (2 * n + b)) (2 * n + b) (le_refl (2 * n + b)) (omega arith)
      ∙ in_large (2 * n + b) (2 * n + b) (omega arith)
      ∙ ap (λ (x : ℕ). half x (descend_in (2 * n + b) top half ((2 * n + b) / 2))) m
      ∙ ap (λ (x : ℕ). half b (descend_in (2 * n + b) top half x)) d
      ∙ ap (half b) (enough (2 * n + b) n n (omega arith) (le_refl n))

-- every node is node 1 or a half of a smaller node
pub node_induction : (P : ℕ → Type 0) → P 1 → ((n b : ℕ) → 0 < n → b < 2 → P n → P (2 * n + b)) → (n : ℕ) → 0 < n → P n
node_induction P one step n h = go n n (le_refl n) h
  where
    go : (fuel n : ℕ) → n ≤ fuel → 0 < n → P n
    go zero n l h = absurd (omega arith)
    go (suc fuel) n l h = ⊎_elim
        (λ s. subst P {x = 1} {y = n} (omega arith) one)
        (λ s. subst P {x = 2 * (n / 2) + n % 2} {y = n} (omega arith)
        (step (n / 2) (n % 2) (omega arith) (omega arith) (go fuel (n / 2) (omega arith) (omega arith))))
        (lt_or_ge n 2)
