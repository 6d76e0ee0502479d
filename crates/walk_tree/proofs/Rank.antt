-- A number that falls with each step of the walk, for any limit `most` of the depth: one more than the limit for each of the deepest nodes that the
-- walk has not passed, and one for each halving that is left. Halving a node leaves the first as it is and takes one of the second; a leaf takes at
-- least one of the first.
use mathlib.Core.Path.{◌≡◌, sym, ◌∙◌, ap}
use mathlib.Core.Logic.{◌⊎◌, inl, inr, ⊎_elim}
use Prim.Native.Nat.{ℕ, suc, ◌+◌, ◌-◌, ◌*◌, ◌^◌, ◌≤◌, ◌<◌}
use native.Mathlib.Nat.{pow-suc, mul-le-mul_left, add-sub_of_le}
use native.Mathlib.Omega.{arith}
use lib.Pow.{pow_pos, shl_lt}
use Rattle.curve_nodes.specs.Nodes.{depth, start, after}
use Rattle.curve_nodes.proofs.Numbers.{start_below, after_one, after_left, after_right}
use Rattle.walk_tree.proofs.Halves.{Half, left_half, right_half, half_induction}

module _ (most : ℕ) where
  -- how many of the deepest nodes lie below n, and how many before it
  abbrev span : ℕ → ℕ
  span n = 2 ^ (most - depth n)

  before : ℕ → ℕ
  before n = start n * span n

  pub rank : ℕ → ℕ
  rank n = suc most * (2 ^ most - before n) + (most - depth n)

  module _ {n c b : ℕ} (h : Half n c b) (l : depth c ≤ most) where
    span_half : span n ≡ span c * 2
    span_half = ap (λ (k : ℕ). 2 ^ k) {x = most - depth n} {y = suc (most - depth c)} (omega (arith, h.deeper)) ∙ pow-suc 2 (most - depth c)

    before_half : before c ≡ before n + b * span c
    unfolding before
    before_half = ap (λ (s : ℕ). s * span c) h.starts ∙ sym (ap (λ (w : ℕ). start n * w + b * span c) span_half ∙ out (start n) (span c))
      where
        out : (s w : ℕ) → s * (w * 2) + b * w ≡ (2 * s + b) * w
        out s w = omega arith

  -- the node after n begins where n ends
  after_begins : (n : ℕ) → 0 < n → depth n ≤ most → (after n ≡ 1) ⊎ (before (after n) ≡ before n + span n)
  after_begins = half_induction (λ n. depth n ≤ most → (after n ≡ 1) ⊎ (before (after n) ≡ before n + span n))
      (λ l. inl after_one)
      (λ n hn f l. inr (
      let a = left_half n hn in
      let b = right_half n hn in
      let same : depth (2 * n + 1) ≡ depth (2 * n) = b.deeper ∙ sym a.deeper in
      let m : depth (2 * n + 1) ≤ most = omega arith in
      rw (after_left n) (omega (arith, before_half a l, before_half b m, ap (λ (d : ℕ). 2 ^ (most - d)) same))))
      (λ n hn f l.
      let b = right_half n hn in
      rw (after_right n) (⊎_elim inl (λ e. inr (omega (arith, e, before_half b l, span_half b l))) (f (omega (arith, b.deeper)))))

  before_end : (n : ℕ) → 0 < n → depth n ≤ most → before n < 2 ^ most
  unfolding before
  before_end n hn l = rw (add-sub_of_le l) at (shl_lt (depth n) (most - depth n) (start_below n hn))

  falls : (a b x y : ℕ) → a < b → x ≤ most → suc most * a + x < suc most * b + y
  falls a b x y h l = omega (arith, mul-le-mul_left (suc most) h)

  module _ (n : ℕ) (hn : 0 < n) where
    pub rank_half : depth n < most → rank (2 * n) < rank n
    unfolding rank
    rank_half h =
        let a = left_half n hn in
        let e : before (2 * n) ≡ before n = omega (arith, before_half a (omega (arith, a.deeper))) in
        rw e (omega (arith, a.deeper))

    pub rank_after : depth n ≤ most → (after n ≡ 1 → ⊥) → rank (after n) < rank n
    unfolding rank
    rank_after l e = ⊎_elim (λ o. absurd (e o))
        (λ b. falls (2 ^ most - before (after n)) (2 ^ most - before n) (most - depth (after n)) (most - depth n)
        (omega (arith, b, before_end n hn l, pow_pos (most - depth n))) (omega arith))
        (after_begins n hn l)
