-- The walk without a stack, over any test of a node and any limit `most` of the depth. It stands at a node; a leaf leads to the node after it,
-- another node to its left half. What the walk has passed, the ends below its node and the ends that follow them are all the ends, in order.
use mathlib.Core.Path.{◌≡◌, refl, sym, ◌∙◌, ap, ap₂}
use mathlib.Core.Bool.{Bool, true, false}
use mathlib.Core.Logic.{◌⊎◌, inl, inr, ⊎_elim}
use mathlib.Core.List.Memᴰ
use mathlib.Core.List.{List, [], ◌∷◌, ◌++◌, append-nil, append_assoc}
use Prim.Native.Nat.{ℕ, suc, ◌+◌, ◌-◌, ◌*◌, ◌^◌, ◌≤◌, ◌<◌, suc-le-suc}
use native.Mathlib.Nat.{le_of_eq, le_trans, lt_of_lt_of_le}
use native.Mathlib.Omega.{arith}
use lib.ListN.{length, length-append}
use lib.Seq.{append_snoc}
use lib.Pow.{pow_mono}
use Rattle.integers.proofs.Order.{lt_or_ge}
use Rattle.curve_nodes.specs.Nodes.{depth, after}
use Rattle.curve_nodes.proofs.Numbers.{depth_one, depth_low, depth_high, depth_unique, after_one, after_left, after_right}
use Rattle.walk_tree.specs.Tree.{ends}
use Rattle.walk_tree.specs.Passing.{AllPass, First}
use Rattle.walk_tree.proofs.Halves.{left_half, right_half}
use Rattle.walk_tree.proofs.Tree.{not_both, ends_here, ends_halved}
use Rattle.walk_tree.proofs.Counting.{some_end}
use Rattle.walk_tree.proofs.Rank.{rank, rank_half, rank_after}
use Rattle.walk_tree.proofs.Failing.{pass_nil, pass_more}

-- the ends below node n
abbrev below : (test : ℕ → Bool) (most n : ℕ) → List ℕ
below test most n = ends test (most - depth n) n

module _ (test : ℕ → Bool) (most : ℕ) where
  -- the ends that follow those below n: those below the right halves that the walk has still to go to
  pub data Following : ℕ → List ℕ → Type 0 where
    last : Following 1 []
    left : {n : ℕ} {ns : List ℕ} → 0 < n → Following n ns → Following (2 * n) (below test most (2 * n + 1) ++ ns)
    right : {n : ℕ} {ns : List ℕ} → 0 < n → Following n ns → Following (2 * n + 1) ns

  below_half : (n : ℕ) → 0 < n → test n ≡ false → depth n < most → below test most n ≡ below test most (2 * n) ++ below test most (2 * n + 1)
  below_half n hn e h =
      let k = most - suc (depth n) in
      ap (λ (k : ℕ). ends test k n) {x = most - depth n} {y = suc k} (omega arith)
      ∙ ends_halved test k n e
      ∙ ap₂ (λ (i j : ℕ). ends test (most - i) (2 * n) ++ ends test (most - j) (2 * n + 1)) (sym (left_half n hn).deeper)
      (sym (right_half n hn).deeper)

  -- they begin with those below node a, which is at most d deep
  record Next (d a : ℕ) (ns : List ℕ) : Type 0 where
    node : 1 < a
    within : depth a ≤ d
    rest : List ℕ
    follow : Following a rest
    is : ns ≡ below test most a ++ rest

  -- the node after n, unless n was the last
  next : {n : ℕ} {ns : List ℕ} → Following n ns → ((after n ≡ 1) × (ns ≡ [])) ⊎ Next (depth n) (after n) ns
  next last = inl (after_one, refl)
  next (left {n} {ns} hn f) = inr (rw (after_left n) (record {
    node = omega arith;
    within = le_of_eq ((right_half n hn).deeper ∙ sym (left_half n hn).deeper);
    rest = ns;
    follow = right hn f;
    is = refl;
  }))
  next (right {n} {ns} hn f) = rw (after_right n) (⊎_elim
      inl
      (λ x. inr (record {
        node = x.node;
        within = omega (arith, x.within, (right_half n hn).deeper);
        rest = x.rest;
        follow = x.follow;
        is = x.is;
      }))
      (next f))

  -- the walk stands at node n and has passed these leaves; what is left are the ends below n and those that follow
  pub record Walking (passed : List ℕ) (n : ℕ) : Type 0 where
    pub node : 0 < n
    pub within : depth n ≤ most
    pub rest : List ℕ
    pub follow : Following n rest
    pub split : ends test most 1 ≡ passed ++ (below test most n ++ rest)
    pub passing : AllPass test passed

  pub walking_start : Walking [] 1
  walking_start = record {
    node = omega arith;
    within = rw depth_one (omega arith);
    rest = [];
    follow = last;
    split = ap (λ (k : ℕ). ends test k 1) {x = most} {y = most - depth 1} (omega (arith, depth_one)) ∙ sym (append-nil (below test most 1));
    passing = pass_nil test;
  }

module _ {test : ℕ → Bool} {most : ℕ} {passed : List ℕ} {n : ℕ} (w : Walking test most passed n) where
  pub walking_below : n < 2 ^ suc most
  walking_below = lt_of_lt_of_le (depth_high n w.node) (pow_mono (suc-le-suc w.within))

  pub not_deepest : n < 2 ^ most → depth n < most
  not_deepest l = ⊎_elim (λ h. h) (λ h. absurd (omega (arith, depth_low n w.node, pow_mono h))) (lt_or_ge (depth n) most)

  pub fewer_passed : length passed < length (ends test most 1)
  fewer_passed = rw (w.split, length-append, length-append) (omega (arith, some_end test (most - depth n) n))

  -- a node that does not pass is halved
  pub walking_half : test n ≡ false → n < 2 ^ most → Walking test most passed (2 * n)
  walking_half e l = let h = not_deepest l in record {
    node = omega (arith, w.node);
    within = rw (left_half n w.node).deeper h;
    rest = below test most (2 * n + 1) ++ w.rest;
    follow = left w.node w.follow;
    split = w.split ∙ ap (λ l. passed ++ l)
        (ap (λ l. l ++ w.rest) (below_half test most n w.node e h) ∙ append_assoc (below test most (2 * n)) (below test most (2 * n + 1))
        w.rest);
    passing = w.passing;
  }

  pub half_falls : n < 2 ^ most → rank most (2 * n) < rank most n
  half_falls l = rank_half most n w.node (not_deepest l)

  -- what passes, or has no halving left, is an end
  at_end : (test n ≡ false → depth n ≡ most) → ends test most 1 ≡ passed ++ n ∷ w.rest
  at_end h = w.split ∙ ap (λ l. passed ++ (l ++ w.rest)) (ends_here test (most - depth n) n (λ e. let d = h e in omega arith))

  -- one that does not pass is the first that fails
  pub walking_failed : test n ≡ false → 2 ^ most ≤ n → First test (ends test most 1) n
  walking_failed e l = record {
    front = passed;
    rest = w.rest;
    split = at_end (λ f. depth_unique n most l walking_below);
    passing = w.passing;
    fails = e;
  }

  -- where every end passes there is none, and such a node has halves
  pub walking_halvable : AllPass test (ends test most 1) → test n ≡ false → n < 2 ^ most
  walking_halvable h e = ⊎_elim (λ l. l) (λ l. absurd (clash (walking_failed e l))) (lt_or_ge n (2 ^ most))
    where
      clash : First test (ends test most 1) n → ⊥
      clash f = not_both (h.each n (rw f.split (Memᴰ.append_right f.front (Memᴰ.head refl)))) e

  passed_on : test n ≡ true → ends test most 1 ≡ (passed ++ n ∷ []) ++ w.rest
  passed_on e = at_end (λ f. absurd (not_both e f)) ∙ sym (append_snoc passed n w.rest)

  -- a node that passes is a leaf, and the walk goes on at the node after it
  pub walking_leaf : test n ≡ true → (after n ≡ 1 → ⊥) → Walking test most (passed ++ n ∷ []) (after n)
  walking_leaf e h = ⊎_elim (λ o. absurd (h o.0)) (λ x. record {
    node = omega (arith, x.node);
    within = le_trans x.within w.within;
    rest = x.rest;
    follow = x.follow;
    split = passed_on e ∙ ap (λ l. (passed ++ n ∷ []) ++ l) x.is;
    passing = pass_more test w.passing e;
  }) (next test most w.follow)

  pub leaf_falls : (after n ≡ 1 → ⊥) → rank most (after n) < rank most n
  leaf_falls = rank_after most n w.node w.within

  -- or n was the last, and every end passes
  pub walking_done : test n ≡ true → after n ≡ 1 → ends test most 1 ≡ passed ++ n ∷ []
  walking_done e h = ⊎_elim
      (λ o. passed_on e ∙ ap (λ l. (passed ++ n ∷ []) ++ l) o.1 ∙ append-nil (passed ++ n ∷ []))
      (λ x. absurd (omega (arith, x.node)))
      (next test most w.follow)

  pub all_passed : test n ≡ true → after n ≡ 1 → AllPass test (ends test most 1)
  all_passed e h = rw (walking_done e h) (pass_more test w.passing e)
