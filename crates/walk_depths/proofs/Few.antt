-- Where a curve and j meet the premise, the curve has at most 2^j leaves, and its walk meets at most 2^(j + 1) − 1 nodes.
use mathlib.Core.Path.{◌≡◌, ◌∙◌, ap}
use mathlib.Core.Bool.{Bool, true}
use mathlib.Core.Logic.{⊎_elim}
use Prim.Native.Nat.{ℕ, suc, ◌+◌, ◌*◌, ◌-◌, ◌^◌, ◌≤◌, ◌<◌}
use native.Mathlib.Nat.{pow-suc}
use native.Mathlib.Numerals.{add-one}
use native.Mathlib.Omega.{arith}
use lib.ListN.{length, length-append}
use lib.Pow.{pow_pos}
use lib.IntN.{ℤ}
use Rattle.integers.proofs.Order.{lt_or_ge}
use Rattle.setting.specs.Setting.{Setting, HasRows, degree_pieces, deepest}
use Rattle.curve_nodes.specs.declared.Curve.{Curve}
use Rattle.curve_nodes.specs.Bounds.{Sized}
use Rattle.curve_nodes.specs.Nodes.{depth}
use Rattle.curve_nodes.proofs.Numbers.{depth_one}
use Rattle.walk_tree.specs.Tree.{ends, met}
use Rattle.walk_tree.proofs.Halves.{left_half, right_half}
use Rattle.walk_tree.proofs.Tree.{not_both, ends_induction}
use Rattle.walk_tree.proofs.Counting.{nodes_met}
use Rattle.walk_curve.specs.Walked.{node_meets, ends_of}
use Rattle.walk_depths.specs.Premise.{Flat}
use Rattle.walk_depths.proofs.Depths.{all_meet}

-- for any test: where all nodes at depth j pass, there are at most 2^j ends
module _ (test : ℕ → Bool) (j : ℕ) (all : (a : ℕ) → 0 < a → depth a ≡ j → test a ≡ true) where
  few_below : (k m : ℕ) → 0 < m → depth m ≤ j → length (ends test k m) ≤ 2 ^ (j - depth m)
  few_below = ends_induction test (λ k m ns. 0 < m → depth m ≤ j → length ns ≤ 2 ^ (j - depth m))
      (λ k m h hm l. pow_pos (j - depth m))
      (λ k m ls rs e left right hm l.
      let less : depth m < j = ⊎_elim (λ h. h) (λ h. absurd (not_both (all m hm (omega arith)) e)) (lt_or_ge (depth m) j) in
      let dl = (left_half m hm).deeper in
      let dr = (right_half m hm).deeper in
      let nl : j - depth (2 * m) ≡ j - depth m - 1 = omega (arith, dl) in
      let nr : j - depth (2 * m + 1) ≡ j - depth m - 1 = omega (arith, dr) in
      let whole : j - depth m ≡ suc (j - depth m - 1) = omega arith in
      omega (
        arith,
        length-append ls rs,
        rw nl at (left (omega arith) (omega (arith, dl))),
        rw nr at (right (omega arith) (omega (arith, dr))),
        ap (λ n. 2 ^ n) whole ∙ pow-suc 2 (j - depth m - 1),
      ))

  pub few_at : (k : ℕ) → length (ends test k 1) ≤ 2 ^ j
  few_at k = let e : j - depth 1 ≡ j = omega (arith, depth_one) in rw e at (few_below k 1 (omega arith) (omega (arith, depth_one)))

module _ (σ : Setting) (rows : HasRows σ.pieces) (T : ℤ) (c : Curve) (s : Sized 0 c) (takes : degree_pieces c.degree σ.pieces ≡ true) (j : ℕ)
    (premise : Flat σ T c j) where
  pub leaves_under : length (ends_of σ T c) ≤ 2 ^ j
  leaves_under = few_at (node_meets σ T c) j (all_meet σ rows T c s takes j premise) (deepest c.degree)

  pub nodes_under : met (node_meets σ T c) (deepest c.degree) 1 ≤ 2 ^ (j + 1) - 1
  nodes_under = omega (arith, leaves_under, nodes_met (node_meets σ T c) (deepest c.degree) 1, twice)
    where
      twice : 2 ^ (j + 1) ≡ 2 ^ j * 2
      twice = rw add-one (pow-suc 2 j)
