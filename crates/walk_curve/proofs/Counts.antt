-- A walk that counts the leaves that it passes: what it has counted at each step, and what it finds.
use mathlib.Core.Path.{◌≡◌, refl, sym, ◌∙◌, ap}
use mathlib.Core.Bool.{true, false}
use mathlib.Core.List.{List, [], ◌∷◌, ◌++◌}
use Prim.Native.Nat.{ℕ, ◌+◌, ◌^◌, ◌≤◌, ◌<◌}
use native.Mathlib.Omega.{arith}
use lib.ListN.{length, length-append}
use lib.IntN.{ℤ}
use Rattle.std.specs.Prelude.{Ok, Err}
use Rattle.setting.specs.Setting.{Setting, deepest}
use Rattle.setting.proofs.Depths.{deepest_few}
use Rattle.curve_nodes.specs.declared.Curve.{Curve}
use Rattle.curve_nodes.specs.Bounds.{Sized}
use Rattle.walk_tree.proofs.Counting.{few_ends}
use Rattle.walk_tree.proofs.Failing.{none_exactly, some_exactly}
use Rattle.walk_tree.proofs.Walking.{walking_failed, walking_done, all_passed, fewer_passed}
use Rattle.walk_curve.specs.declared.Part.{Part}
use Rattle.walk_curve.specs.Inside.{left_part, AfterOf, walked_of}
use Rattle.walk_curve.specs.Walked.{node_meets, ends_of}
use Rattle.walk_curve.proofs.Parts.{part}
use Rattle.walk_curve.proofs.Walks.{WalkOf, walk_start, walk_left, walk_after}

-- the walk stands at a part, and has counted the leaves that it passed
pub record Counted (σ : Setting) (T : ℤ) (c : Curve) (p : Part) (leaves : ℕ) : Type 0 where
  pub passed : List ℕ
  pub count : leaves ≡ length passed
  pub walk : WalkOf σ T c passed p

module _ {σ : Setting} {T : ℤ} {c : Curve} where
  pub counted_start : Sized 0 c → Counted σ T c (part 1 c) 0
  counted_start h = record { passed = []; count = refl; walk = walk_start h }

  module _ {p : Part} {leaves : ℕ} (h : Counted σ T c p leaves) where
    pub counted_few : leaves < 256
    counted_few =
        omega (arith, h.count, fewer_passed h.walk.walking, few_ends (node_meets σ T c) (deepest c.degree) 1, deepest_few c.degree)

    more : leaves + 1 ≡ length (h.passed ++ p.node ∷ [])
    more = ap (λ n. n + 1) h.count ∙ sym (length-append h.passed (p.node ∷ []))

    -- a node that does not meet T is halved, or it is the first too wide
    module _ (e : node_meets σ T c p.node ≡ false) where
      pub counted_left : p.node < 2 ^ deepest c.degree → Counted σ T c (left_part p) leaves
      counted_left l = record { passed = h.passed; count = h.count; walk = walk_left h.walk e l }

      pub counted_failed : 2 ^ deepest c.degree ≤ p.node → walked_of σ T c ≡ Err p.node
      unfolding walked_of
      counted_failed l =
          rw ((some_exactly (node_meets σ T c) (ends_of σ T c) p.node).1 (walking_failed h.walk.walking e l), walked_of)

    -- one that does is a leaf, and the walk goes on or is done
    module _ (e : node_meets σ T c p.node ≡ true) {r : Part} (a : AfterOf p r) where
      pub counted_after : (r.node ≡ 1 → ⊥) → Counted σ T c r (leaves + 1)
      counted_after l = record { passed = h.passed ++ p.node ∷ []; count = more; walk = walk_after h.walk a l e }

      pub counted_done : r.node ≡ 1 → walked_of σ T c ≡ Ok (leaves + 1)
      unfolding walked_of
      counted_done o = let w = h.walk.walking in
          let l = sym a.node ∙ o in
          rw ((none_exactly (node_meets σ T c) (ends_of σ T c)).1 (all_passed w e l), walked_of)
          (ap Ok (ap length (walking_done w e l) ∙ sym more))
