-- Two tests, of which the looser holds wherever the other does. The walk of the looser one has no more ends: each of them is an end of the other walk
-- or an ancestor of ends of it, and each end of the other walk is one of them or has one for its ancestor. Where the ends of the one walk all pass,
-- so do those of the looser.
use mathlib.Core.Path.{◌≡◌, refl, sym, ◌∙◌, ap, subst}
use mathlib.Core.Bool.{Bool, true, false}
use mathlib.Core.Logic.{◌⊎◌, inl, inr, ⊎_elim}
use mathlib.Core.List.Memᴰ
use mathlib.Core.List.{Memᴰ}
use Prim.Native.Nat.{ℕ, zero, suc, ◌+◌, ◌*◌, ◌/◌, ◌^◌, ◌≤◌, ◌<◌}
use native.Mathlib.Nat.{div-one, zero-lt-suc}
use native.Mathlib.Omega.{arith}
use lib.ListN.{length, length-append}
use Rattle.walk_tree.specs.Tree.{ends}
use Rattle.walk_tree.specs.Leaves.{Ancestor}
use Rattle.walk_tree.specs.Passing.{AllPass}
use Rattle.walk_tree.proofs.Tree.{either, not_both, ends_halved, ends_induction}
use Rattle.walk_tree.proofs.Leaves.{above, end_below, end_facts}
use Rattle.walk_tree.proofs.Counting.{some_end}

-- the walk of a node ends somewhere below it, or at it
some_below : (test : ℕ → Bool) (k m : ℕ) → (e : ℕ) × (j : ℕ) × Memᴰ e (ends test k m) × (e / 2 ^ j ≡ m)
some_below test = ends_induction test (λ k m ns. (e : ℕ) × (j : ℕ) × Memᴰ e ns × (e / 2 ^ j ≡ m))
    (λ k m h. (m, 0, Memᴰ.head refl, div-one m))
    (λ k m ls rs f l r.
    let up : l.0 / 2 ^ suc l.1 ≡ m = above l.0 l.1 ∙ ap (λ (x : ℕ). x / 2) l.3 ∙ omega arith in
    (l.0, suc l.1, Memᴰ.append_left rs l.2, up))

-- j halvings above e: e itself, or an ancestor of it
at_or_above : {n e : ℕ} (j : ℕ) → 0 < n → e / 2 ^ j ≡ n → (n ≡ e) ⊎ Ancestor n e
at_or_above {n} {e} zero h is = inl (sym is ∙ div-one e)
at_or_above {n} {e} (suc j) h is = inr (record { node = h; halvings = suc j; some = zero-lt-suc j; is = sym is })

module _ (test looser : ℕ → Bool) (holds : (n : ℕ) → test n ≡ true → looser n ≡ true) where
  fails : (n : ℕ) → looser n ≡ false → test n ≡ false
  fails n e = ⊎_elim (λ p. absurd (not_both (holds n p) e)) (λ f. f) (either (test n))

  pub fewer_ends : (k n : ℕ) → length (ends looser k n) ≤ length (ends test k n)
  fewer_ends = ends_induction looser (λ k n ns. length ns ≤ length (ends test k n))
      (λ k n h. some_end test k n)
      (λ k n ls rs e l r. rw (ends_halved test k n (fails n e))
      (omega (arith, length-append ls rs, length-append (ends test k (2 * n)) (ends test k (2 * n + 1)))))

  -- ---- where the ends of the one walk pass, those of the looser do
  passes_here : (k n : ℕ) → (looser n ≡ false → k ≡ 0) → AllPass test (ends test k n) → looser n ≡ true
  unfolding ends
  passes_here k n h p = ⊎_elim (λ e. e)
      (λ f. holds n (p.each n (subst (λ (i : ℕ). Memᴰ n (ends test i n)) (sym (h f)) (Memᴰ.head refl))))
      (either (looser n))

  pub passing_kept : (k n : ℕ) → AllPass test (ends test k n) → AllPass looser (ends looser k n)
  passing_kept = ends_induction looser (λ k n ns. AllPass test (ends test k n) → AllPass looser ns)
      (λ k n h p. record { each = λ m i. ap looser (Memᴰ.eq_of_singleton i) ∙ passes_here k n h p })
      (λ k n ls rs e l r p.
      let q = rw (ends_halved test k n (fails n e)) at p in
      let left = l (record { each = λ m i. q.each m (Memᴰ.append_left (ends test k (2 * n + 1)) i) }) in
      let right = r (record { each = λ m i. q.each m (Memᴰ.append_right (ends test k (2 * n)) i) }) in
      record { each = λ m i. ⊎_elim (left.each m) (right.each m) (Memᴰ.append_cases ls i) })

  -- ---- which ends they are
  over : (n k m : ℕ) → Memᴰ n (ends looser k m) → (e : ℕ) × (j : ℕ) × Memᴰ e (ends test k m) × (e / 2 ^ j ≡ n)
  over n = ends_induction looser (λ k m ns. Memᴰ n ns → (e : ℕ) × (j : ℕ) × Memᴰ e (ends test k m) × (e / 2 ^ j ≡ n))
      (λ k m h i. let b = some_below test k m in (b.0, b.1, b.2, b.3 ∙ sym (Memᴰ.eq_of_singleton i)))
      (λ k m ls rs f l r i. rw (ends_halved test k m (fails m f)) (⊎_elim
      (λ i. let b = l i in (b.0, b.1, Memᴰ.append_left (ends test k (2 * m + 1)) b.2, b.3))
      (λ i. let b = r i in (b.0, b.1, Memᴰ.append_right (ends test k (2 * m)) b.2, b.3))
      (Memᴰ.append_cases ls i)))

  under : (e k m : ℕ) → Memᴰ e (ends test k m) → (n : ℕ) × (j : ℕ) × Memᴰ n (ends looser k m) × (e / 2 ^ j ≡ n)
  under e = ends_induction looser (λ k m ns. Memᴰ e (ends test k m) → (n : ℕ) × (j : ℕ) × Memᴰ n ns × (e / 2 ^ j ≡ n))
      (λ k m h i. let b = end_below test e k m i in (m, b.0, Memᴰ.head refl, b.1))
      (λ k m ls rs f l r i. ⊎_elim
      (λ i. let b = l i in (b.0, b.1, Memᴰ.append_left rs b.2, b.3))
      (λ i. let b = r i in (b.0, b.1, Memᴰ.append_right ls b.2, b.3))
      (Memᴰ.append_cases (ends test k (2 * m)) (rw (ends_halved test k m (fails m f)) at i)))

  -- ---- in words, from node 1
  module _ (k : ℕ) where
    -- an end of the looser walk is an end of the other, or an ancestor of one
    pub end_or_above : (n : ℕ) → Memᴰ n (ends looser k 1) → Memᴰ n (ends test k 1) ⊎ ((e : ℕ) × Memᴰ e (ends test k 1) × Ancestor n e)
    end_or_above n i =
        let b = over n k 1 i in
        ⊎_elim (λ q. inl (rw q b.2)) (λ a. inr (b.0, b.2, a)) (at_or_above b.1 (end_facts looser k n i).node b.3)

    -- an end of the other walk is an end of the looser, or one is its ancestor
    pub end_or_below : (e : ℕ) → Memᴰ e (ends test k 1)
        → Memᴰ e (ends looser k 1) ⊎ ((n : ℕ) × Memᴰ n (ends looser k 1) × Ancestor n e)
    end_or_below e i =
        let b = under e k 1 i in
        ⊎_elim (λ q. inl (rw q at b.2)) (λ a. inr (b.0, b.2, a)) (at_or_above b.1 (end_facts looser k b.0 b.2).node b.3)
