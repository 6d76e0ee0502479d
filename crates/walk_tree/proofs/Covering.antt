-- The covering theorem: the stretches of the ends lie end to end from 0 to 1, and every parameter lies in one of them.
use mathlib.Core.Path.{◌≡◌, refl, sym, ap, subst₂}
use mathlib.Core.Bool.{Bool}
use mathlib.Core.Logic.{◌⊎◌, inl, inr, ⊎_elim}
use mathlib.Core.List.Memᴰ
use mathlib.Core.List.{List, [], ◌∷◌, ◌++◌, Memᴰ}
use Prim.Native.Nat.{ℕ, ◌+◌, ◌*◌, ◌^◌, ◌≤◌, ◌<◌}
use native.Mathlib.Nat.{le_of_eq, mul-le-mul_right, le_of_mul-le-mul_right, eq_of_mul-eq-mul_right}
use native.Mathlib.Omega.{arith}
use lib.Pow.{pow_pos}
use Rattle.integers.proofs.Order.{lt_or_ge}
use Rattle.curve_nodes.specs.Nodes.{depth, start}
use Rattle.curve_nodes.proofs.Numbers.{depth_one}
use Rattle.walk_tree.specs.Tree.{ends}
use Rattle.walk_tree.specs.Leaves.{Spans, EndToEnd, done, next}
use Rattle.walk_tree.proofs.Halves.{Half, left_half, right_half, finer}
use Rattle.walk_tree.proofs.Tree.{ends_induction}

-- ---- every parameter is covered
module _ (p r : ℕ) where
  -- from s / w to (s + 1) / w
  record Between (s w : ℕ) : Type 0 where
    from : s * (p + r) ≤ w * p
    to : w * p ≤ (s + 1) * (p + r)

  spans_half : {n c b : ℕ} → Half n c b → Between (2 * start n + b) (2 ^ depth n * 2) → Spans c p r
  spans_half h i = let c = subst₂ Between (sym h.starts) (sym (finer h)) i in record { from = c.from; to = c.to }

  -- a parameter of a node is one of its left half or of its right half
  in_half : (n : ℕ) → 0 < n → Spans n p r → Spans (2 * n) p r ⊎ Spans (2 * n + 1) p r
  in_half n hn h = ⊎_elim
      (λ l. inl (spans_half (left_half n hn) (first (start n) (2 ^ depth n) h.from l)))
      (λ l. inr (spans_half (right_half n hn) (second (start n) (2 ^ depth n) h.to l)))
      (lt_or_ge (2 ^ depth n * 2 * p) ((2 * start n + 1) * (p + r)))
    where
      first : (s w : ℕ) → s * (p + r) ≤ w * p → w * 2 * p < (2 * s + 1) * (p + r) → Between (2 * s + 0) (w * 2)
      first s w f l = record { from = omega arith; to = omega arith }

      second : (s w : ℕ) → w * p ≤ (s + 1) * (p + r) → (2 * s + 1) * (p + r) ≤ w * 2 * p → Between (2 * s + 1) (w * 2)
      second s w t l = record { from = omega arith; to = omega arith }

  spans_one : Spans 1 p r
  spans_one = record { from = rw depth_one (omega arith); to = rw depth_one (omega arith) }

  module _ (test : ℕ → Bool) where
    covered : (k n : ℕ) → 0 < n → Spans n p r → (m : ℕ) × Memᴰ m (ends test k n) × Spans m p r
    covered = ends_induction test (λ k n ns. 0 < n → Spans n p r → (m : ℕ) × Memᴰ m ns × Spans m p r)
        (λ k n e hn h. (n, Memᴰ.head refl, h))
        (λ k n ls rs e l r hn h. ⊎_elim
        (λ i. let m = l (omega arith) i in (m.0, Memᴰ.append_left rs m.1, m.2))
        (λ i. let m = r (omega arith) i in (m.0, Memᴰ.append_right ls m.1, m.2))
        (in_half n hn h))

    -- p and r may even both be 0
    pub some_end_spans : (k : ℕ) → (n : ℕ) × Memᴰ n (ends test k 1) × Spans n p r
    some_end_spans k = covered k 1 (omega arith) spans_one

-- ---- end to end
-- two fractions that equal a third one are equal
same_fraction : (s w t u v x : ℕ) → 0 < w → s * u ≡ t * w → s * x ≡ v * w → t * x ≡ v * u
same_fraction s w t u v x h e f = eq_of_mul-eq-mul_right w h (t * x) (v * u) (omega (arith, ap (λ z. z * x) e, ap (λ z. z * u) f))

-- where they begin, and where they end, as other fractions
begin_at : (v x : ℕ) {s w t u : ℕ} {ns : List ℕ} → 0 < w → s * x ≡ v * w → EndToEnd s w ns t u → EndToEnd v x ns t u
begin_at v x h e (done {s} {w} {t} {u} c) = done (same_fraction s w v x t u h e c)
begin_at v x h e (next {s} {w} {n} c cs) = next (same_fraction s w v x (start n) (2 ^ depth n) h e c) cs

end_at : (v x : ℕ) {s w t u : ℕ} {ns : List ℕ} → 0 < u → t * x ≡ v * u → EndToEnd s w ns t u → EndToEnd s w ns v x
end_at v x h e (done {s} {w} {t} {u} c) = done (same_fraction t u s w v x h (sym c) e)
end_at v x h e (next c cs) = next c (end_at v x h e cs)

both : {s w t u v x : ℕ} {ms ns : List ℕ} → 0 < u → EndToEnd s w ms t u → EndToEnd t u ns v x → EndToEnd s w (ms ++ ns) v x
both h (done {s} {w} c) d = begin_at s w h (sym c) d
both h (next c cs) d = next c (both h cs d)

-- the halves' stretches make the node's
joined : {s w : ℕ} {ls rs : List ℕ} → 0 < w → EndToEnd (2 * s + 0) (w * 2) ls (2 * s + 0 + 1) (w * 2)
    → EndToEnd (2 * s + 1) (w * 2) rs (2 * s + 1 + 1) (w * 2)
    → EndToEnd s w (ls ++ rs) (s + 1) w
joined {s} {w} h l r =
    let hw : 0 < w * 2 = omega arith in
    begin_at s w hw (omega arith) (end_at (s + 1) w hw (omega arith) (both hw (end_at (2 * s + 1) (w * 2) hw (omega arith) l) r))

module _ (test : ℕ → Bool) where
  below_node : (k n : ℕ) → 0 < n → EndToEnd (start n) (2 ^ depth n) (ends test k n) (start n + 1) (2 ^ depth n)
  below_node = ends_induction test (λ k n ns. 0 < n → EndToEnd (start n) (2 ^ depth n) ns (start n + 1) (2 ^ depth n))
      (λ k n e hn. next refl (done refl))
      (λ k n ls rs e l r hn.
      let a = left_half n hn in
      let b = right_half n hn in
      joined (pow_pos (depth n))
      (subst₂ (λ s w. EndToEnd s w ls (s + 1) w) a.starts (finer a) (l (omega arith)))
      (subst₂ (λ s w. EndToEnd s w rs (s + 1) w) b.starts (finer b) (r (omega arith))))

  pub ends_end_to_end : (k : ℕ) → EndToEnd 0 1 (ends test k 1) 1 1
  ends_end_to_end k = rw depth_one at (below_node k 1 (omega arith))

-- the leaves by neighbours: the first stretch begins at 0, each other where the one before ends, and the last ends at 1
begins : {s w n t u : ℕ} {ns : List ℕ} → EndToEnd s w (n ∷ ns) t u → s * 2 ^ depth n ≡ start n * w
begins (next c cs) = c

behind : {s w t u : ℕ} (xs : List ℕ) (n : ℕ) (ys : List ℕ) → EndToEnd s w (xs ++ n ∷ ys) t u → EndToEnd (start n + 1) (2 ^ depth n) ys t u
behind [] n ys (next c cs) = cs
behind {s = s} {w = w} {t = t} {u = u} (x ∷ xs) n ys (next c cs) = behind {s = start x + 1} xs n ys cs

-- s / w is at most b / y where it is a / x and even (a + 1) / x is at most b / y
at_most : (s w a x b y : ℕ) → 0 < x → s * x ≡ a * w → (a + 1) * y ≤ b * x → s * y ≤ b * w
at_most s w a x b y h e l = le_of_mul-le-mul_right (omega (arith, ap (λ z. z * y) e, mul-le-mul_right w l)) h

-- they begin no later than each of them does
ahead : {s w t u : ℕ} (xs : List ℕ) (n : ℕ) (ys : List ℕ) → EndToEnd s w (xs ++ n ∷ ys) t u → s * 2 ^ depth n ≤ start n * w
ahead [] n ys c = le_of_eq (begins c)
ahead {s} {w} (x ∷ xs) n ys (next c cs) = at_most s w (start x) (2 ^ depth x) (start n) (2 ^ depth n) (pow_pos (depth x)) c (ahead {s = start x + 1} xs n ys cs)

module _ (test : ℕ → Bool) (k : ℕ) where
  pub first_begins : (n : ℕ) (ns : List ℕ) → ends test k 1 ≡ n ∷ ns → start n ≡ 0
  first_begins n ns e = omega (arith, begins (rw e at (ends_end_to_end test k)))

  pub neighbours_meet : (xs : List ℕ) (n m : ℕ) (ys : List ℕ) → ends test k 1 ≡ xs ++ n ∷ m ∷ ys → (start n + 1) * 2 ^ depth m ≡ start m * 2 ^ depth n
  neighbours_meet xs n m ys e = begins (behind xs n (m ∷ ys) (rw e at (ends_end_to_end test k)))

  -- the stretch of an end lies before those of all that follow it
  pub in_order : (xs : List ℕ) (n : ℕ) (ys : List ℕ) (m : ℕ) (zs : List ℕ) → ends test k 1 ≡ xs ++ n ∷ (ys ++ m ∷ zs)
      → (start n + 1) * 2 ^ depth m ≤ start m * 2 ^ depth n
  in_order xs n ys m zs e = ahead ys m zs (behind xs n (ys ++ m ∷ zs) (rw e at (ends_end_to_end test k)))

  pub last_ends : (xs : List ℕ) (n : ℕ) → ends test k 1 ≡ xs ++ n ∷ [] → start n + 1 ≡ 2 ^ depth n
  last_ends xs n e = finish (behind xs n [] (rw e at (ends_end_to_end test k)))
    where
      finish : {s w : ℕ} → EndToEnd s w [] 1 1 → s ≡ w
      finish (done c) = omega arith
