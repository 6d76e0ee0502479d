-- The depth claim (demand 3): with largest second difference M, no end of the walk is deeper than j where
-- 2 × (16 × G × M + 20000 × 4^j)² ≤ (10000 × T × 4^j)². By the width law and the quarter law every node at depth j meets T, so the walk halves none
-- of them; and where j is in the walk's reach, nothing is too wide.
use mathlib.Core.Path.{◌≡◌}
use mathlib.Core.Bool.{Bool, true}
use mathlib.Core.Logic.{⊎_elim}
use mathlib.Core.List.Memᴰ
use mathlib.Core.List.{Memᴰ}
use mathlib.Core.Option.{none}
use Prim.Native.Nat.{ℕ, ◌≤◌, ◌<◌}
use native.Mathlib.Nat.{le_refl}
use native.Mathlib.Omega.{arith}
use lib.IntN.{ℤ}
use Rattle.integers.proofs.Order.{lt_or_ge}
use Rattle.setting.specs.Setting.{Setting, HasRows, degree_pieces, deepest}
use Rattle.curve_nodes.specs.declared.Curve.{Curve}
use Rattle.curve_nodes.specs.Bounds.{Sized}
use Rattle.curve_nodes.specs.Differences.{largest}
use Rattle.curve_nodes.specs.Nodes.{depth, node_curve}
use Rattle.curve_nodes.proofs.Coordinates.{node_degree}
use Rattle.curve_nodes.proofs.Numbers.{depth_one}
use Rattle.curve_nodes.proofs.Quarter.{quarter_x, quarter_y}
use Rattle.bound_node.proofs.Narrow.{width_meets}
use Rattle.walk_tree.specs.Tree.{ends, first_failing}
use Rattle.walk_tree.specs.Leaves.{Leaf}
use Rattle.walk_curve.specs.Walked.{node_meets, ends_of}
use Rattle.walk_tree.specs.Passing.{AllPass}
use Rattle.walk_depths.specs.Premise.{Flat}
use Rattle.walk_tree.proofs.Halves.{left_half, right_half}
use Rattle.walk_tree.proofs.Tree.{either, not_both, ends_induction}
use Rattle.walk_tree.proofs.Leaves.{end_facts, all_leaves}
use Rattle.walk_tree.proofs.Failing.{passing_none}

-- ---- for any test: where all nodes at depth j pass, none of them is halved
module _ (test : ℕ → Bool) (j : ℕ) (all : (a : ℕ) → 0 < a → depth a ≡ j → test a ≡ true) where
  below : (k m : ℕ) → 0 < m → depth m ≤ j → (n : ℕ) → Memᴰ n (ends test k m) → depth n ≤ j
  below = ends_induction test (λ k m ns. 0 < m → depth m ≤ j → (n : ℕ) → Memᴰ n ns → depth n ≤ j)
      (λ k m h hm l n i. rw (Memᴰ.eq_of_singleton i) l)
      (λ k m ls rs e left right hm l n i.
      let less : depth m < j = ⊎_elim (λ h. h) (λ h. absurd (not_both (all m hm (omega arith)) e)) (lt_or_ge (depth m) j) in
      ⊎_elim (left (omega arith) (omega (arith, (left_half m hm).deeper)) n) (right (omega arith) (omega (arith, (right_half m hm).deeper)) n)
      (Memᴰ.append_cases ls i))

  pub ends_within : (k n : ℕ) → Memᴰ n (ends test k 1) → depth n ≤ j
  ends_within k = below k 1 (omega arith) (omega (arith, depth_one))

  -- an end that does not pass is at the last depth k, so it would be at depth j
  pub ends_passing : (k : ℕ) → j ≤ k → AllPass test (ends test k 1)
  ends_passing k l = record {
    each = λ n i.
        let f = end_facts test k n i in
        ⊎_elim (λ p. p) (λ e. all n f.node (omega (arith, f.failing e, ends_within k n i))) (either (test n));
  }

  -- so a walk of j halvings finds all leaves, whatever their depth
  pub leaves_within_law : (n : ℕ) → Leaf test n → depth n ≤ j
  leaves_within_law n l = (end_facts test j n ((all_leaves test j n (ends_passing j (le_refl j))).1 l)).within

-- ---- the test of a setting
module _ (σ : Setting) (rows : HasRows σ.pieces) (T : ℤ) (c : Curve) (s : Sized 0 c) (takes : degree_pieces c.degree σ.pieces ≡ true) (j : ℕ)
    (premise : Flat σ T c j) where
  pub all_meet : (n : ℕ) → 0 < n → depth n ≡ j → node_meets σ T c n ≡ true
  all_meet n hn e =
      let d = node_degree c n hn in
      width_meets σ rows T (depth n) (largest c) (node_curve c n) (rw d s.least) (rw d s.most) (rw d takes)
      (rw d (quarter_x c s.least s.most n hn)) (rw d (quarter_y c s.least s.most n hn)) (rw (d, e) premise)

  pub end_depth : (n : ℕ) → Memᴰ n (ends_of σ T c) → depth n ≤ j
  end_depth = ends_within (node_meets σ T c) j all_meet (deepest c.degree)

  pub leaf_depth : (n : ℕ) → Leaf (node_meets σ T c) n → depth n ≤ j
  leaf_depth = leaves_within_law (node_meets σ T c) j all_meet

  pub none_too_wide : j ≤ deepest c.degree → first_failing (node_meets σ T c) (ends_of σ T c) ≡ none
  none_too_wide l = passing_none (node_meets σ T c) (ends_of σ T c) (ends_passing (node_meets σ T c) j all_meet (deepest c.degree) l)
