-- The ends of the walk, and leaves as ends. An end is found by the path that leads to it, j halvings of nodes that do not pass; n / 2^j is the node j
-- halvings above n.
use mathlib.Core.Path.{◌≡◌, refl, sym, ◌∙◌, ap, subst}
use mathlib.Core.Bool.{Bool, true, false}
use mathlib.Core.Logic.{⊎_elim}
use mathlib.Core.List.Memᴰ
use mathlib.Core.List.{Memᴰ}
use Prim.Native.Nat.{ℕ, zero, suc, ◌+◌, ◌-◌, ◌*◌, ◌/◌, ◌^◌, ◌≤◌, ◌<◌, suc-le-suc}
use native.Mathlib.Nat.{le_refl, pow-suc, div-one, div-div-eq-div-mul, le-div_iff_mul-le}
use native.Mathlib.Nat.{div-lt_iff_lt-mul, pos_of_div-pos, lt_of_lt_of_le, div-eq_of_lt}
use native.Mathlib.Omega.{arith}
use lib.Pow.{pow_pos, pow_mono}
use Rattle.integers.proofs.Order.{lt_or_ge}
use Rattle.curve_nodes.specs.Nodes.{depth}
use Rattle.curve_nodes.proofs.Numbers.{depth_low, depth_high, depth_unique, depth_bit}
use Rattle.walk_tree.specs.Tree.{ends}
use Rattle.walk_tree.specs.Leaves.{Ancestor, Leaf}
use Rattle.walk_tree.specs.Passing.{AllPass, First}
use Rattle.walk_tree.proofs.Tree.{not_both, ends_leaf, ends_halved, ends_induction}

pub above : (n j : ℕ) → n / 2 ^ suc j ≡ n / 2 ^ j / 2
above n j = ap (λ (x : ℕ). n / x) (pow-suc 2 j) ∙ sym (div-div-eq-div-mul n (2 ^ j) 2)

-- n is reached from m by j halvings, of k at hand, all of nodes that do not pass; if n does not pass either, none is left
record Reached (test : ℕ → Bool) (k m n j : ℕ) : Type 0 where
  few : j ≤ k
  from : n / 2 ^ j ≡ m
  through : (i : ℕ) → 0 < i → i ≤ j → test (n / 2 ^ i) ≡ false
  none_left : test n ≡ false → j ≡ k

-- what is known of an end, whether it passes or not
pub record End (test : ℕ → Bool) (k n : ℕ) : Type 0 where
  pub node : 0 < n
  pub within : depth n ≤ k
  pub below : n < 2 ^ suc k
  pub failing : test n ≡ false → depth n ≡ k
  pub longest : (a : ℕ) → Ancestor a n → test a ≡ false

module _ (test : ℕ → Bool) where
  reached_half : {k m c n j : ℕ} → c / 2 ≡ m → test m ≡ false → Reached test k c n j → Reached test (suc k) m n (suc j)
  reached_half {k} {m} {c} {n} {j} half e r =
      let up : n / 2 ^ suc j ≡ m = above n j ∙ ap (λ (x : ℕ). x / 2) r.from ∙ half in record {
        few = omega arith;
        from = up;
        through = λ i h l. ⊎_elim
            (λ s. r.through i h (omega arith))
            (λ s. let t : i ≡ suc j = omega arith in ap (λ (x : ℕ). test (n / 2 ^ x)) t ∙ ap test up ∙ e)
            (lt_or_ge i (suc j));
        none_left = λ f. ap suc (r.none_left f);
      }

  -- an end is reached
  reached : (n k m : ℕ) → Memᴰ n (ends test k m) → (j : ℕ) × Reached test k m n j
  reached n = ends_induction test (λ k m ns. Memᴰ n ns → (j : ℕ) × Reached test k m n j)
      (λ k m h i. let e = Memᴰ.eq_of_singleton i in (
        0,
        record {
          few = omega arith;
          from = div-one n ∙ e;
          through = λ i a b. absurd (omega arith);
          none_left = λ f. sym (h (ap test (sym e) ∙ f));
        },
      ))
      (λ k m ls rs e l r i. ⊎_elim
      (λ i. (suc (l i).0, reached_half (omega arith) e (l i).1))
      (λ i. (suc (r i).0, reached_half (omega arith) e (r i).1))
      (Memᴰ.append_cases ls i))

  -- an end is its node, or lies below it
  pub end_below : (n k m : ℕ) → Memᴰ n (ends test k m) → (j : ℕ) × (n / 2 ^ j ≡ m)
  end_below n k m i = let r = reached n k m i in (r.0, r.1.from)

  -- and what is reached and passes is an end
  is_end : (n k m j : ℕ) → test n ≡ true → Reached test k m n j → Memᴰ n (ends test k m)
  is_end n k m zero p r =
      let e = sym (div-one n) ∙ r.from in
      rw (ends_leaf test k m (ap test (sym e) ∙ p)) (Memᴰ.head e)
  is_end n zero m (suc j) p r = absurd (omega arith)
  is_end n (suc k) m (suc j) p r =
      let c = n / 2 ^ j in
      let half : c / 2 ≡ m = sym (above n j) ∙ r.from in
      let next = is_end n k c j p (record {
        few = omega arith;
        from = refl;
        through = λ i h l. r.through i h (omega arith);
        none_left = λ f. absurd (not_both p f);
      }) in
      rw (ends_halved test k m (ap test (sym r.from) ∙ r.through (suc j) (omega arith) (le_refl (suc j))))
      (⊎_elim
      (λ l. let e : c ≡ 2 * m = omega arith in Memᴰ.append_left (ends test k (2 * m + 1)) (subst (λ x. Memᴰ n (ends test k x)) e next))
      (λ l. let e : c ≡ 2 * m + 1 = omega arith in Memᴰ.append_right (ends test k (2 * m)) (subst (λ x. Memᴰ n (ends test k x)) e next))
      (lt_or_ge c (2 * m + 1)))

  -- the walk ends on the way to any n that lies k + j halvings below m, at a node from j to k + j halvings above n
  on_the_way : (n j k m : ℕ) → n / 2 ^ (k + j) ≡ m → (i : ℕ) × (j ≤ i) × (i ≤ k + j) × Memᴰ (n / 2 ^ i) (ends test k m)
  on_the_way n j = ends_induction test (λ k m ns. n / 2 ^ (k + j) ≡ m → (i : ℕ) × (j ≤ i) × (i ≤ k + j) × Memᴰ (n / 2 ^ i) ns)
      (λ k m h e. (k + j, omega arith, le_refl (k + j), Memᴰ.head e))
      (λ k m ls rs f l r e.
      let c = n / 2 ^ (k + j) in
      let half : c / 2 ≡ m = sym (above n (k + j)) ∙ ap (λ (x : ℕ). n / 2 ^ x) {x = suc (k + j)} {y = suc k + j} (omega arith) ∙ e in
      ⊎_elim
      (λ s. let w = l (omega arith) in (w.0, w.1, omega (arith, w.2), Memᴰ.append_left rs w.3))
      (λ s. let w = r (omega arith) in (w.0, w.1, omega (arith, w.2), Memᴰ.append_right ls w.3))
      (lt_or_ge c (2 * m + 1)))

  -- ---- from node 1
  module _ (k n : ℕ) where
    reached_depth : {j : ℕ} → Reached test k 1 n j → depth n ≡ j
    reached_depth {j} r = depth_unique n j
        (omega (arith, (le-div_iff_mul-le {x = 1} {y = n} (pow_pos j)).0 (omega arith)))
        (omega (arith, (div-lt_iff_lt-mul {x = n} {y = 2} (pow_pos j)).0 (omega arith), pow-suc 2 j))

    pub end_facts : Memᴰ n (ends test k 1) → End test k n
    end_facts i =
        let r = reached n k 1 i in
        let d = reached_depth r.1 in
        let hn = pos_of_div-pos {n = n} (2 ^ r.0) (omega (arith, r.1.from)) in
        let w : depth n ≤ k = omega (arith, r.1.few) in
        let high = depth_high n hn in record {
          node = hn;
          within = w;
          below = lt_of_lt_of_le high (pow_mono (suc-le-suc w));
          failing = λ f. d ∙ r.1.none_left f;
          longest = λ a h. ⊎_elim
              (λ (l : h.halvings < suc (depth n)). ap test h.is ∙ r.1.through h.halvings h.some (omega arith))
              (λ (l : suc (depth n) ≤ h.halvings). absurd (omega (arith, h.is, h.node, div-eq_of_lt (lt_of_lt_of_le high (pow_mono l)))))
              (lt_or_ge h.halvings (suc (depth n)));
        }

    -- the first end that does not pass
    pub first_end : First test (ends test k 1) n → End test k n
    first_end f = end_facts (rw f.split (Memᴰ.append_right f.front (Memᴰ.head refl)))

    pub end_leaf : Memᴰ n (ends test k 1) → test n ≡ true → Leaf test n
    end_leaf i p = let f = end_facts i in record { node = f.node; passes = p; longest = f.longest }

    ancestor : 0 < n → (i : ℕ) → 0 < i → i ≤ depth n → Ancestor (n / 2 ^ i) n
    ancestor hn i h s = record {
      node = (le-div_iff_mul-le {x = 1} {y = n} (pow_pos i)).1 (omega (arith, pow_mono s, depth_low n hn));
      halvings = i;
      some = h;
      is = refl;
    }

    pub leaf_end : Leaf test n → depth n ≤ k → Memᴰ n (ends test k 1)
    leaf_end l within = is_end n k 1 (depth n) l.passes (record {
      few = within;
      from = depth_bit n l.node;
      through = λ i h s. l.longest (n / 2 ^ i) (ancestor l.node i h s);
      none_left = λ f. absurd (not_both l.passes f);
    })

    -- Where every end passes, no leaf is deeper: the walk would end at a longer stretch that passes.
    pub leaf_within : AllPass test (ends test k 1) → Leaf test n → depth n ≤ k
    leaf_within h l = ⊎_elim (λ (s : depth n < suc k). omega arith) (λ (s : suc k ≤ depth n). absurd (deeper s)) (lt_or_ge (depth n) (suc k))
      where
        deeper : suc k ≤ depth n → ⊥
        deeper s =
            let all : k + (depth n - k) ≡ depth n = omega arith in
            let w = on_the_way n (depth n - k) k 1 (ap (λ (j : ℕ). n / 2 ^ j) all ∙ depth_bit n l.node) in
            let m = n / 2 ^ w.0 in
            not_both (h.each m w.3) (l.longest m (ancestor l.node w.0 (omega (arith, w.1)) (omega (arith, w.2))))
