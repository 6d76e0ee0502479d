-- The curve of the node after leaf n is the leaf's curve carried on, over a stretch 2^k times as long, where n + 1 ends in k zeros. Node 1, which
-- stands for the end, is left out.
use mathlib.Core.Path.{◌≡◌, sym, ◌∙◌, ap, ap₂}
use mathlib.Core.Logic.{◌⊎◌, inl, inr, ⊎_elim}
use mathlib.Core.List.{List}
use Prim.Native.Nat.{ℕ, zero, suc, ◌+◌, ◌*◌, ◌-◌, ◌/◌, ◌^◌, ◌≤◌, ◌<◌}
use native.Mathlib.Nat.{le_of_suc-le-suc, pow-suc, pow-succ', mul_assoc, mul-suc}
use native.Mathlib.Omega.{arith}
use lib.Count.{count_trailing_zeros}
use lib.IntN.{ℤ, pos, ◌*ℤ◌, pow}
use Rattle.setting.specs.Setting.{most_degree, control_values}
use Rattle.integers.specs.Entry.{entry}
use Rattle.curve_halves.specs.Halves.{triangle, right, padded}
use Rattle.curve_halves.proofs.Values.{listed_entry, listed_ext}
use Rattle.curve_onward.specs.Onward.{onward_at, onward}
use Rattle.curve_onward.proofs.Onward.{Follows, onward_is}
use Rattle.curve_nodes.specs.declared.Curve.{Curve}
use Rattle.curve_nodes.specs.Inside.{onward_of}
use Rattle.curve_nodes.specs.Nodes.{node_curve, start, after}
use Rattle.curve_nodes.proofs.Nodes.{node_induction}
use Rattle.curve_nodes.proofs.Numbers.{depth_low, start_half, after_one, after_left, after_right, trailing_even, trailing_odd, power_order}
use Rattle.curve_nodes.proofs.Coordinates.{node_values, values_half, node_curve_law}
use Rattle.curve_nodes.proofs.Spans.{remaining, remaining_half, whole_width, node_span}

-- ---- the stretch of the node after n, unless n was the last
-- node m is a right half, and its stretch follows that of n and is 2^k times as long
pub record NextStretch (k n m : ℕ) : Type 0 where
  pub above : ℕ
  pub some : 0 < above
  pub is : m ≡ 2 * above + 1
  pub follows : Follows (2 ^ k) (start n) (remaining n) (start m) (remaining m)

-- from a node to its right half
doubled : (n : ℕ) → 0 < n → (k : ℕ) {s e : ℕ} → Follows (2 ^ k) (start n) (remaining n) s e
    → Follows (2 ^ suc k) (start (2 * n + 1)) (remaining (2 * n + 1)) s e
doubled n hn k {s} {e} f = rw (remaining_half n 1 hn (omega arith), start_half n 1 hn (omega arith), pow-succ' 2 k)
    (record { before = omega (arith, f.before, mul_assoc 2 (2 ^ k) s); after = omega (arith, f.after, mul_assoc 2 (2 ^ k) (suc e)) })

abbrev NextOf : ℕ → Type 0
NextOf n = (v : ℕ) → n + 1 < 2 ^ v → (after n ≡ 1) ⊎ NextStretch (count_trailing_zeros v (n + 1)) n (after n)

pub next_stretch : (n : ℕ) → 0 < n → NextOf n
next_stretch = node_induction NextOf (λ v l. inl after_one) step
  where
    left : (n : ℕ) → 0 < n → NextOf (2 * n + 0)
    left n hn v l = rw (trailing_odd v (2 * n + 0 + 1) (omega arith)) (inr (record {
      above = n;
      some = hn;
      is = ap after {x = 2 * n + 0} {y = 2 * n} (omega arith) ∙ after_left n;
      follows = rw (
        ap after {x = 2 * n + 0} {y = 2 * n} (omega arith) ∙ after_left n,
        remaining_half n 0 hn (omega arith),
        remaining_half n 1 hn (omega arith),
        start_half n 0 hn (omega arith),
        start_half n 1 hn (omega arith),
      ) (record { before = omega arith; after = omega arith });
    }))

    right : (n : ℕ) → 0 < n → NextOf n → NextOf (2 * n + 1)
    right n hn is zero l = absurd (omega arith)
    right n hn is (suc v) l =
        let half : (2 * n + 1 + 1) / 2 ≡ n + 1 = omega arith in
        rw (after_right n, trailing_even v (2 * n + 1 + 1) (omega arith), half)
        (⊎_elim
        inl
        (λ x. inr (record { above = x.above; some = x.some; is = x.is; follows = doubled n hn (count_trailing_zeros v (n + 1)) x.follows }))
        (is v (omega (arith, pow-suc 2 v))))

    step : (n b : ℕ) → 0 < n → b < 2 → NextOf n → NextOf (2 * n + b)
    step n zero hn hb is = left n hn
    step n (suc zero) hn hb is = right n hn is
    step n (suc (suc b)) hn hb is = absurd (omega arith)

-- in the tree of depth 8 the node after n is at most 7 halvings less deep
pub few_zeros : {k n m : ℕ} → 0 < n → n < 512 → NextStretch k n m → k ≤ 7
few_zeros {k} {n} {m} hn l x =
    let a = start x.above in
    let s : start m ≡ suc (2 * a) = ap start x.is ∙ start_half x.above 1 x.some (omega arith) ∙ omega arith in
    let p : suc (start n) ≡ 2 ^ k * (2 * a) + 2 ^ k = x.follows.before ∙ ap (λ j. 2 ^ k * j) s ∙ mul-suc (2 ^ k) (2 * a) in
    let q : remaining n ≡ 2 ^ k * remaining m + 2 ^ k = x.follows.after ∙ mul-suc (2 ^ k) (remaining m) in
    let h : 2 ^ suc k ≤ n = omega (arith, pow-suc 2 k, whole_width n hn, depth_low n hn) in
    omega (arith, power_order n (suc k) 8 h l)

-- ---- the curve
module _ (d : ℕ) (h : d ≤ most_degree) (cs : List ℤ) where
  values_onward : {k n m : ℕ} → 0 < n → NextStretch k n m → padded (onward d k (node_values d cs n)) ≡ node_values d cs m
  unfolding onward right
  values_onward {k} {n} {m} hn x =
      let vs = node_values d cs x.above in
      let e : node_values d cs m ≡ padded (right d vs) = ap (node_values d cs) x.is ∙ values_half d cs x.above 1 x.some (omega arith) in
      ap padded (listed_ext (suc d) (onward_at d k (entry (node_values d cs n))) (λ j. pow (pos 2) j *ℤ triangle vs (d - j) j) (λ i l.
      onward_is k x.follows d (entry cs) (entry (node_values d cs n)) (node_span d h cs n hn) i (le_of_suc-le-suc l)
      ∙ sym (node_span d h cs m (omega (arith, x.is)) i (le_of_suc-le-suc l))
      ∙ ap (λ ns. entry ns i) e
      ∙ listed_entry control_values (entry (right d vs)) i (omega arith)
      ∙ listed_entry (suc d) (λ j. pow (pos 2) j *ℤ triangle vs (d - j) j) i l))
      ∙ sym e

pub node_onward : (root : Curve) → root.degree ≤ most_degree → {k n m : ℕ} → 0 < n → NextStretch k n m
    → onward_of k (node_curve root n) ≡ node_curve root m
unfolding onward_of
node_onward root h {k} {n} {m} hn x =
    ap (onward_of k) (node_curve_law root n hn)
    ∙ ap₂ with_values (values_onward root.degree h root.x hn x) (values_onward root.degree h root.y hn x)
    ∙ sym (node_curve_law root m (omega (arith, x.is)))
  where
    with_values : List ℤ → List ℤ → Curve
    with_values xs ys = record { degree = root.degree; x = xs; y = ys }
