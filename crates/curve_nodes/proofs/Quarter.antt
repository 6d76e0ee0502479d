-- The quarter law (document 01: "The largest second difference shrinks to a quarter or less at each halving"). The second differences of a half of
-- degree d, times 2^d as its control values are, are the half of degree d − 2 of the second differences: so they are at most 2^(d − 2) times as
-- large.
use mathlib.Core.Path.{◌≡◌, refl, sym, ◌∙◌, ap, ap₂, fun_ext, subst}
use mathlib.Core.Logic.{⊎_elim}
use mathlib.Core.List.{List, [], ◌∷◌}
use Prim.Native.Nat.{ℕ, zero, suc, ◌+◌, ◌*◌, ◌-◌, ◌^◌, max, ◌≤◌, ◌<◌, zero-le, suc-le-suc}
use native.Mathlib.Nat.{le_refl, le_trans, le_of_suc-le-suc, not-suc-le-zero, eq-or-lt_of_le, le-max_left, le-max_right, max-le, mul-le-mul_left}
use native.Mathlib.Nat.{mul_assoc, mul_comm, mul_left_comm, mul-zero, mul-suc, pow-suc, pow-succ'}
use lib.Pow.{pow-add}
use native.Mathlib.Omega.{arith}
use lib.IntN.{ℤ, pos, nat_abs, ◌+ℤ◌, ◌-ℤ◌, ◌*ℤ◌}
use Rattle.setting.specs.Setting.{most_degree}
use Rattle.integers.specs.Entry.{entry}
use Rattle.integers.proofs.Ring.{ring, sides}
use Rattle.integers.proofs.Order.{lt_or_ge}
use Rattle.curve_bernstein.proofs.Stretch.{half_part, part_difference, part_size}
use Rattle.curve_nodes.specs.declared.Curve.{Curve}
use Rattle.curve_halves.specs.Halves.{padded}
use Rattle.curve_halves.specs.Sizes.{Each}
use Rattle.curve_nodes.specs.Nodes.{depth, half_of, node_curve}
use Rattle.curve_nodes.specs.Bounds.{Sized}
use Rattle.curve_nodes.specs.Differences.{difference, largest_of, bend, largest}
use Rattle.curve_nodes.proofs.Nodes.{node_induction}
use Rattle.curve_nodes.proofs.Sizes.{difference_under}
use Rattle.curve_halves.proofs.Values.{padded_entry, half, half_entry}
use Rattle.curve_nodes.proofs.Values.{curve_half}
use Rattle.curve_nodes.proofs.Coordinates.{node_degree}
use Rattle.curve_nodes.proofs.Numbers.{depth_one, depth_half, node_one, node_half}

-- ---- the largest of some numbers
largest_at : (n : ℕ) (f : ℕ → ℕ) (k : ℕ) → k < n → f k ≤ largest_of n f
unfolding largest_of
largest_at zero f k h = absurd (not-suc-le-zero h)
largest_at (suc n) f k h = ⊎_elim
    (λ e. subst (λ j. f j ≤ max (largest_of n f) (f n)) (sym e) (le-max_right (largest_of n f) (f n)))
    (λ l. le_trans (largest_at n f k l) (le-max_left (largest_of n f) (f n)))
    (eq-or-lt_of_le (le_of_suc-le-suc h))

largest_least : (n : ℕ) (f : ℕ → ℕ) {B : ℕ} → ((k : ℕ) → k < n → f k ≤ B) → largest_of n f ≤ B
unfolding largest_of
largest_least zero f h = zero-le
largest_least (suc n) f h = max-le (largest_least n f (λ k l. h k (omega arith))) (h n (le_refl (suc n)))

module _ (d : ℕ) (cs : List ℤ) where
  pub bend_at : (k : ℕ) → k < d - 1 → nat_abs (difference cs k) ≤ bend d cs
  unfolding bend
  bend_at = largest_at (d - 1) (λ k. nat_abs (difference cs k))

  pub bend_least : {B : ℕ} → ((k : ℕ) → k < d - 1 → nat_abs (difference cs k) ≤ B) → bend d cs ≤ B
  unfolding bend
  bend_least = largest_least (d - 1) (λ k. nat_abs (difference cs k))

module _ (c : Curve) (k : ℕ) (h : k < c.degree - 1) where
  pub largest_x : nat_abs (difference c.x k) ≤ largest c
  unfolding largest
  largest_x = le_trans (bend_at c.degree c.x k h) (le-max_left (bend c.degree c.x) (bend c.degree c.y))

  pub largest_y : nat_abs (difference c.y k) ≤ largest c
  unfolding largest
  largest_y = le_trans (bend_at c.degree c.y k h) (le-max_right (bend c.degree c.x) (bend c.degree c.y))

-- a curve of control values within 2^20
pub largest_under : {c : Curve} → Sized 0 c → largest c ≤ 2 ^ 22
unfolding largest
largest_under {c} s = max-le (bend_least c.degree c.x (λ k h. under s.x k)) (bend_least c.degree c.y (λ k h. under s.y k))
  where
    under : {cs : List ℤ} → Each (2 ^ 20 * 2 ^ (c.degree * 0)) cs → (k : ℕ) → nat_abs (difference cs k) ≤ 2 ^ 22
    under each k = let d = difference_under each k in omega (arith, rw mul-zero at d)

-- ---- the second differences of a half
-- they are those of any list with the same entries at k, k + 1 and k + 2
difference_at : (cs : List ℤ) (g : ℕ → ℤ) (k : ℕ) → entry cs k ≡ g k → entry cs (suc k) ≡ g (suc k) → entry cs (suc (suc k)) ≡ g (suc (suc k))
    → difference cs k ≡ g k -ℤ pos 2 *ℤ g (suc k) +ℤ g (suc (suc k))
difference_at cs g k a b c = ap₂ ◌+ℤ◌ (ap₂ (λ x y. x -ℤ pos 2 *ℤ y) a b) c

pub half_difference : (b : ℕ) → b < 2 → (n : ℕ) (cs : List ℤ) (k : ℕ) → k ≤ n
    → difference (half b (suc (suc n)) cs) k ≡ half_part b n (difference cs) k
half_difference b hb n cs k h =
    let d = suc (suc n) in
    difference_at (half b d cs) (half_part b d f) k (at k (omega arith)) (at (suc k) (omega arith)) (at (suc (suc k)) (omega arith))
    ∙ twice (half_part b d f k) (half_part b d f (suc k)) (half_part b d f (suc (suc k)))
    ∙ ap₂ ◌-ℤ◌ (first (suc n) f (suc k) (suc-le-suc h)) (first (suc n) f k (omega arith))
    ∙ first n (λ j. f (suc j) -ℤ f j) k h
    ∙ ap (λ g. half_part b n g k) (fun_ext (λ j. sym (twice (f j) (f (suc j)) (f (suc (suc j))))))
  where
    f : ℕ → ℤ
    f = entry cs

    at : (j : ℕ) → j ≤ suc (suc n) → entry (half b (suc (suc n)) cs) j ≡ half_part b (suc (suc n)) f j
    at = half_entry b hb (suc (suc n)) cs

    twice : (x y z : ℤ) → x -ℤ pos 2 *ℤ y +ℤ z ≡ z -ℤ y -ℤ (y -ℤ x)
    twice x y z = ring (x ∷ y ∷ z ∷ []) (search sides depth 20) refl

    first : (m : ℕ) (g : ℕ → ℤ) (j : ℕ) → j ≤ m → half_part b (suc m) g (suc j) -ℤ half_part b (suc m) g j ≡ half_part b m (λ i. g (suc i) -ℤ g i) j
    first = part_difference (pos b) (pos (suc (1 - b))) (pos (suc b)) (pos (1 - b))
        (ring (pos b ∷ []) (search sides depth 20) refl) (ring (pos (1 - b) ∷ []) (search sides depth 20) refl)

pub half_bend : (b : ℕ) → b < 2 → (d : ℕ) → 1 ≤ d → (cs : List ℤ) → 4 * bend d (half b d cs) ≤ 2 ^ d * bend d cs
half_bend b hb zero l cs = absurd (not-suc-le-zero l)
half_bend b hb (suc zero) l cs = le_trans (mul-le-mul_left 4 (bend_least 1 (half b 1 cs) {B = 0} (λ k h. absurd (not-suc-le-zero h)))) zero-le
half_bend b hb (suc (suc n)) l cs =
    le_trans (mul-le-mul_left 4 (bend_least (suc (suc n)) (half b (suc (suc n)) cs) at)) (four_times (bend (suc (suc n)) cs))
  where
    four_times : (W : ℕ) → 4 * (2 ^ n * W) ≤ 2 ^ suc (suc n) * W
    four_times W = rw (pow-succ' 2 (suc n), pow-succ' 2 n, mul_assoc 2 (2 * 2 ^ n) W, mul_assoc 2 (2 ^ n) W) (omega arith)

    at : (k : ℕ) → k < suc (suc n) - 1 → nat_abs (difference (half b (suc (suc n)) cs) k) ≤ 2 ^ n * bend (suc (suc n)) cs
    at k h = rw (half_difference b hb n cs k (omega arith)) (part_size b (suc (1 - b)) (suc b) (1 - b) 2 (omega arith) (omega arith)
        (bend (suc (suc n)) cs) n (difference cs) (λ j m. bend_at (suc (suc n)) cs j (omega arith)) k (omega arith))

-- padding changes none
padded_bend : (d : ℕ) → d ≤ most_degree → (cs : List ℤ) → bend d (padded cs) ≤ bend d cs
padded_bend d h cs = bend_least d (padded cs) (λ k l. rw (difference_at (padded cs) (entry cs) k
    (padded_entry cs k (omega arith)) (padded_entry cs (suc k) (omega arith)) (padded_entry cs (suc (suc k)) (omega arith))) (bend_at d cs k l))

-- ---- of a curve, both coordinates together
max_times : (k m a b A B : ℕ) → k * a ≤ m * A → k * b ≤ m * B → k * max a b ≤ m * max A B
max_times k m a b A B f g = ⊎_elim
    (λ l. subst (λ z. k * z ≤ m * max A B) {x = b} {y = max a b} (omega arith) (le_trans g (mul-le-mul_left m (le-max_right A B))))
    (λ l. subst (λ z. k * z ≤ m * max A B) {x = a} {y = max a b} (omega arith) (le_trans f (mul-le-mul_left m (le-max_left A B))))
    (lt_or_ge a b)

pub half_largest : (b : ℕ) → b < 2 → (c : Curve) → 1 ≤ c.degree → c.degree ≤ most_degree → 4 * largest (half_of b c) ≤ 2 ^ c.degree * largest c
unfolding largest
half_largest b hb c l h = rw (curve_half b c)
    (max_times 4 (2 ^ d) (bend d (halved c.x)) (bend d (halved c.y)) (bend d c.x) (bend d c.y) (coordinate c.x) (coordinate c.y))
  where
    d : ℕ
    d = c.degree

    halved : List ℤ → List ℤ
    halved cs = padded (half b d cs)

    coordinate : (cs : List ℤ) → 4 * bend d (halved cs) ≤ 2 ^ d * bend d cs
    coordinate cs = le_trans (mul-le-mul_left 4 (padded_bend d h (half b d cs))) (half_bend b hb d l cs)

-- ---- at every depth
deeper : (a a' w w' L' L M : ℕ) → a' * L' ≤ w' * L → a * L ≤ w * M → a * a' * L' ≤ w * w' * M
deeper a a' w w' L' L M f g =
    rw (mul_assoc a a' L', mul_comm w w', mul_assoc w' w M) (le_trans (mul-le-mul_left a f) (rw (mul_left_comm a w' L) (mul-le-mul_left w' g)))

module _ (c : Curve) (l : 1 ≤ c.degree) (h : c.degree ≤ most_degree) where
  next_largest : (n b : ℕ) → 0 < n → b < 2 → 4 * largest (node_curve c (2 * n + b)) ≤ 2 ^ c.degree * largest (node_curve c n)
  next_largest n b hn hb = rw (node_half c n b hn hb)
      (subst (λ d. 4 * largest (half_of b (node_curve c n)) ≤ 2 ^ d * largest (node_curve c n)) (node_degree c n hn)
      (half_largest b hb (node_curve c n) (rw (node_degree c n hn) l) (rw (node_degree c n hn) h)))

  pub node_largest : (n : ℕ) → 0 < n → 4 ^ depth n * largest (node_curve c n) ≤ 2 ^ (c.degree * depth n) * largest c
  node_largest = node_induction (λ n. 4 ^ depth n * largest (node_curve c n) ≤ 2 ^ (c.degree * depth n) * largest c)
      (rw (depth_one, node_one c, mul-zero) (le_refl (1 * largest c)))
      (λ n b hn hb q. rw (depth_half n b hn hb, mul-suc, pow-add, pow-suc 4 (depth n))
      (deeper (4 ^ depth n) 4 (2 ^ (c.degree * depth n)) (2 ^ c.degree)
      (largest (node_curve c (2 * n + b))) (largest (node_curve c n)) (largest c) (next_largest n b hn hb) q))

  module _ (n : ℕ) (hn : 0 < n) (j : ℕ) (hj : j < c.degree - 1) where
    pub quarter_x : 4 ^ depth n * nat_abs (difference (node_curve c n).x j) ≤ 2 ^ (c.degree * depth n) * largest c
    quarter_x = le_trans (mul-le-mul_left (4 ^ depth n) (largest_x (node_curve c n) j (rw (node_degree c n hn) hj))) (node_largest n hn)

    pub quarter_y : 4 ^ depth n * nat_abs (difference (node_curve c n).y j) ≤ 2 ^ (c.degree * depth n) * largest c
    quarter_y = le_trans (mul-le-mul_left (4 ^ depth n) (largest_y (node_curve c n) j (rw (node_degree c n hn) hj))) (node_largest n hn)
