-- Laws of nodes by their numbers: depth and the powers of 2, the start among the nodes of a depth, the curve of a half, and the node after a leaf.
use mathlib.Core.Path.{◌≡◌, refl, sym, ◌∙◌, ap}
use mathlib.Core.Logic.{◌⊎◌, inl, inr, ⊎_elim}
use Prim.Native.Nat.{ℕ, zero, suc, ◌+◌, ◌-◌, ◌*◌, ◌/◌, ◌%◌, ◌^◌, ◌≤◌, ◌<◌}
use native.Mathlib.Nat.{le_antisymm, pow-suc, pow-succ', div-one, div-div-eq-div-mul, div-eq_of_lt-le}
use native.Mathlib.Omega.{arith}
use lib.Pow.{pow_mono, pow_pos}
use lib.Count.{count_trailing_zeros}
use Rattle.integers.proofs.Order.{lt_or_ge}
use Rattle.curve_nodes.specs.declared.Curve.{Curve}
use Rattle.curve_nodes.specs.Nodes.{depth, half_of, node_curve, start, odd_part_in, after}
use Rattle.curve_nodes.proofs.Nodes.{descend_one, descend_half, node_induction}

-- ---- depth
pub depth_one : depth 1 ≡ 0
unfolding depth
depth_one = descend_one 0 (λ b k. suc k)

pub depth_half : (n b : ℕ) → 0 < n → b < 2 → depth (2 * n + b) ≡ suc (depth n)
unfolding depth
depth_half n b hn hb = descend_half 0 (λ b k. suc k) n b hn hb

-- depth n is the k with 2^k ≤ n < 2^(k + 1)
pub depth_low : (n : ℕ) → 0 < n → 2 ^ depth n ≤ n
depth_low = node_induction (λ n. 2 ^ depth n ≤ n) (rw depth_one (omega arith))
    (λ n b hn hb h. rw (depth_half n b hn hb) (omega (arith, pow-suc 2 (depth n))))

pub depth_high : (n : ℕ) → 0 < n → n < 2 ^ suc (depth n)
depth_high = node_induction (λ n. n < 2 ^ suc (depth n)) (rw depth_one (omega arith))
    (λ n b hn hb h. rw (depth_half n b hn hb) (omega (arith, pow-suc 2 (suc (depth n)))))

pub power_order : (n j k : ℕ) → 2 ^ j ≤ n → n < 2 ^ suc k → j ≤ k
power_order n j k l h = ⊎_elim (λ less. absurd (clash (pow_mono less))) (λ more. more) (lt_or_ge k j)
  where
    clash : 2 ^ suc k ≤ 2 ^ j → ⊥
    clash p = omega arith

pub depth_unique : (n k : ℕ) → 2 ^ k ≤ n → n < 2 ^ suc k → depth n ≡ k
depth_unique n k l h =
    let hn : 0 < n = omega (arith, pow_pos k) in
    le_antisymm (power_order n (depth n) k (depth_low n hn) h) (power_order n k (depth n) l (depth_high n hn))

pub depth_under : (n k : ℕ) → 0 < n → n < 2 ^ suc k → depth n ≤ k
depth_under n k hn h = power_order n (depth n) k (depth_low n hn) h

-- ---- the bits of a node, from the highest on
pub depth_bit : (n : ℕ) → 0 < n → n / 2 ^ depth n ≡ 1
depth_bit n hn = div-eq_of_lt-le (2 ^ depth n) (omega (arith, depth_low n hn)) (omega (arith, depth_high n hn, pow-suc 2 (depth n)))

pub next_bit : (n i : ℕ) → 0 < i → n / 2 ^ i ≡ n / 2 ^ (i - 1) / 2
next_bit n i h =
    let e : i ≡ suc (i - 1) = omega arith in
    ap (λ (x : ℕ). n / 2 ^ x) e ∙ ap (λ (x : ℕ). n / x) (pow-suc 2 (i - 1)) ∙ sym (div-div-eq-div-mul n (2 ^ (i - 1)) 2)

-- ---- start
pub start_half : (n b : ℕ) → 0 < n → b < 2 → start (2 * n + b) ≡ 2 * start n + b
start_half n b hn hb = rw (depth_half n b hn hb) (omega (arith, pow-suc 2 (depth n), depth_low n hn))

pub start_below : (n : ℕ) → 0 < n → start n < 2 ^ depth n
start_below n hn = omega (arith, pow-suc 2 (depth n), depth_low n hn, depth_high n hn)

-- ---- the curve of a node
module _ (root : Curve) where
  pub node_one : node_curve root 1 ≡ root
  unfolding node_curve
  node_one = descend_one root half_of

  pub node_half : (n b : ℕ) → 0 < n → b < 2 → node_curve root (2 * n + b) ≡ half_of b (node_curve root n)
  unfolding node_curve
  node_half n b hn hb = descend_half root half_of n b hn hb

-- ---- the node after a leaf: by the lowest bit
even_or_odd : (n : ℕ) → (n % 2 ≡ 0) ⊎ (n % 2 ≡ 1)
even_or_odd n = ⊎_elim (λ l. inl (omega arith)) (λ l. inr (omega arith)) (lt_or_ge (n % 2) 1)

odd_even : (fuel n : ℕ) → n % 2 ≡ 0 → odd_part_in (suc fuel) n ≡ odd_part_in fuel (n / 2)
unfolding odd_part_in
odd_even fuel n e = rw (e, odd_part_in)

odd_odd : (fuel n : ℕ) → n % 2 ≡ 1 → odd_part_in fuel n ≡ n
unfolding odd_part_in
odd_odd zero n e = refl
odd_odd (suc fuel) n e = rw (e, odd_part_in)

-- any fuel that the bits of n do not use up gives the same
odd_enough : (f g n : ℕ) → 0 < n → n < 2 ^ suc f → n < 2 ^ suc g → odd_part_in f n ≡ odd_part_in g n
odd_enough zero g n hn hf hg = let e : n % 2 ≡ 1 = omega arith in odd_odd zero n e ∙ sym (odd_odd g n e)
odd_enough (suc f) zero n hn hf hg = let e : n % 2 ≡ 1 = omega arith in odd_odd (suc f) n e ∙ sym (odd_odd zero n e)
odd_enough (suc f) (suc g) n hn hf hg = ⊎_elim
    (λ e. odd_even f n e
    ∙ odd_enough f g (n / 2) (omega arith) (omega (arith, pow-suc 2 (suc f))) (omega (arith, pow-suc 2 (suc g)))
    ∙ sym (odd_even g n e))
    (λ e. odd_odd (suc f) n e ∙ sym (odd_odd (suc g) n e))
    (even_or_odd n)

below_power : (n : ℕ) → n < 2 ^ n
below_power zero = omega arith
below_power (suc n) = omega (arith, pow-suc 2 n, below_power n)

after_enough : (fuel n : ℕ) → n + 1 < 2 ^ suc fuel → odd_part_in fuel (n + 1) ≡ after n
unfolding after
after_enough fuel n h = odd_enough fuel n (n + 1) (omega arith) h (omega (arith, pow-suc 2 n, below_power n))

pub after_one : after 1 ≡ 1
unfolding after odd_part_in
after_one = refl

-- after a left half comes the right half
pub after_left : (n : ℕ) → after (2 * n) ≡ 2 * n + 1
unfolding after
after_left n = odd_odd (2 * n) (2 * n + 1) (omega arith)

-- after a right half comes what comes after the whole
pub after_right : (n : ℕ) → after (2 * n + 1) ≡ after n
after_right n =
    let e : (2 * n + 1 + 1) / 2 ≡ n + 1 = omega arith in
    let b : 2 * n < 2 ^ (2 * n) = below_power (2 * n) in
    sym (after_enough (suc (2 * n)) (2 * n + 1) (omega (arith, pow-suc 2 (suc (2 * n)), pow-suc 2 (2 * n))))
    ∙ odd_even (2 * n) (2 * n + 1 + 1) (omega arith)
    ∙ ap (odd_part_in (2 * n)) e
    ∙ after_enough (2 * n) n (omega (arith, pow-suc 2 (2 * n)))

-- ---- the node after a leaf as code computes it: a shift by the count of trailing zeros
pub trailing_even : (k n : ℕ) → n % 2 ≡ 0 → count_trailing_zeros (suc k) n ≡ suc (count_trailing_zeros k (n / 2))
unfolding count_trailing_zeros
trailing_even k n e = rw e

pub trailing_odd : (k n : ℕ) → n % 2 ≡ 1 → count_trailing_zeros k n ≡ 0
unfolding count_trailing_zeros
trailing_odd zero n e = refl
trailing_odd (suc k) n e = rw e

pub trailing_below : (k n : ℕ) → 0 < n → n < 2 ^ k → count_trailing_zeros k n < k
trailing_below zero n hn h = omega arith
trailing_below (suc k) n hn h = ⊎_elim
    (λ e. rw (trailing_even k n e) (omega (arith, trailing_below k (n / 2) (omega arith) (omega (arith, pow-suc 2 k)))))
    (λ e. rw (trailing_odd (suc k) n e) (omega arith))
    (even_or_odd n)

shifted : (k n : ℕ) → n / 2 ^ count_trailing_zeros k n ≡ odd_part_in k n
unfolding count_trailing_zeros odd_part_in
shifted zero n = div-one n
shifted (suc k) n = ⊎_elim
    (λ e. rw (trailing_even k n e, odd_even k n e, pow-succ') (sym (div-div-eq-div-mul n 2 (2 ^ count_trailing_zeros k (n / 2))) ∙ shifted k (n / 2)))
    (λ e. rw (trailing_odd (suc k) n e, odd_odd (suc k) n e) (div-one n))
    (even_or_odd n)

pub after_shifted : (k n : ℕ) → n + 1 < 2 ^ suc k → (n + 1) / 2 ^ count_trailing_zeros k (n + 1) ≡ after n
after_shifted k n h = shifted k (n + 1) ∙ after_enough k n h
