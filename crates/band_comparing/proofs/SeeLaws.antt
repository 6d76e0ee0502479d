-- A walk that compares the record of each leaf: how far the numbers given agree at each step, and what it finds.
use mathlib.Core.Path.{◌≡◌, refl, sym, ◌∙◌, ap, ap₂}
use mathlib.Core.Bool.{true, false}
use mathlib.Core.List.{List, [], ◌∷◌, ◌++◌}
use Prim.Native.Nat.{ℕ, ◌+◌, ◌*◌, ◌^◌, ◌≤◌, ◌<◌}
use native.Mathlib.Nat.{mul-le-mul_left}
use native.Mathlib.Omega.{arith}
use lib.ListN.{length, length-append}
use lib.IntN.{ℤ}
use Rattle.std.specs.Prelude.{Result, Some, None, Ok, Err}
use Rattle.setting.specs.Setting.{Setting, break_points, record_length, deepest}
use Rattle.setting.proofs.Depths.{deepest_few}
use Rattle.curve_nodes.specs.declared.Curve.{Curve}
use Rattle.curve_nodes.specs.Bounds.{Sized}
use Rattle.curve_nodes.specs.Nodes.{depth}
use Rattle.bound_node.specs.Boxes.{meets}
use Rattle.walk_tree.proofs.Counting.{few_ends}
use Rattle.walk_tree.proofs.Failing.{none_exactly, some_exactly}
use Rattle.walk_tree.proofs.Walking.{walking_failed, walking_done, all_passed, fewer_passed}
use Rattle.walk_curve.specs.declared.Part.{Part}
use Rattle.walk_curve.specs.Inside.{left_part, AfterOf}
use Rattle.walk_curve.specs.Walked.{node_meets, ends_of}
use Rattle.walk_curve.proofs.Parts.{part}
use Rattle.walk_curve.proofs.Walks.{WalkOf, walk_start, walk_left, walk_after}
use Rattle.band_records.specs.Records.{boxes_to, node_numbers, record_of, records_of}
use Rattle.band_records.proofs.Lengths.{records_length, records_snoc}
use Rattle.band_comparing.specs.declared.Seen.{Seen}
use Rattle.band_comparing.specs.Inside.{reach_of, tried_of, seen_of}
use Rattle.band_comparing.proofs.ReachLaws.{reach_less, reach_parts}
use Rattle.band_comparing.proofs.TryLaws.{told_wide, told_narrow}

-- what a walk that finds nothing too wide gives
abbrev pub seen : (place reach : ℕ) → Result Seen ℕ
seen place reach = Ok (record { place = place; reach = reach })

-- the walk stands at part p; the numbers agree so far with the records of the leaves passed
pub record Seeing (σ : Setting) (T : ℤ) (c : Curve) (k : ℕ) (g : List ℤ) (reach at : ℕ) (p : Part) (place to : ℕ) : Type 0 where
  pub passed : List ℕ
  pub walk : WalkOf σ T c passed p
  pub here : place ≡ at + record_length σ * length passed
  pub is : to ≡ reach_of g reach at (records_of σ k c passed)

module _ {σ : Setting} {T : ℤ} {c : Curve} {k : ℕ} {g : List ℤ} {reach at : ℕ} where
  pub seeing_start : Sized 0 c → Seeing σ T c k g reach at (part 1 c) at reach
  unfolding records_of reach_of
  seeing_start h = record { passed = []; walk = walk_start h; here = omega arith; is = refl }

  module _ {p : Part} {place to : ℕ} (h : Seeing σ T c k g reach at p place to) where
    pub seeing_less : to ≤ reach
    seeing_less = omega (arith, h.is, reach_less g reach at (records_of σ k c h.passed))

    pub seeing_few : place ≤ at + record_length σ * 256
    seeing_few =
        let few : length h.passed ≤ 256
        = omega (arith, fewer_passed h.walk.walking, few_ends (node_meets σ T c) (deepest c.degree) 1, deepest_few c.degree) in
        omega (arith, h.here, mul-le-mul_left (record_length σ) few)

    abbrev own : List ℤ
    own = node_numbers k p.node (boxes_to σ (break_points σ) (depth p.node) p.curve)

    -- the code's test is that of the node
    same_test : meets σ T (depth p.node) p.curve ≡ node_meets σ T c p.node
    same_test = ap (meets σ T (depth p.node)) h.walk.of.is

    own_is : own ≡ record_of σ k c p.node
    unfolding record_of
    own_is = ap (λ q. node_numbers k p.node (boxes_to σ (break_points σ) (depth p.node) q)) h.walk.of.is

    -- ---- a node that is too wide is halved, or it is the first
    module _ (e : None ≡ tried_of (meets σ T (depth p.node) p.curve) (reach_of g to place own)) where
      wide : node_meets σ T c p.node ≡ false
      wide = sym same_test ∙ told_wide (meets σ T (depth p.node) p.curve) (reach_of g to place own) e

      pub seeing_left : p.node < 2 ^ deepest c.degree → Seeing σ T c k g reach at (left_part p) place to
      seeing_left l = record { passed = h.passed; walk = walk_left h.walk wide l; here = h.here; is = h.is }

      pub seeing_failed : 2 ^ deepest c.degree ≤ p.node → Err p.node ≡ seen_of σ T c k g reach at
      unfolding seen_of
      seeing_failed l =
          rw ((some_exactly (node_meets σ T c) (ends_of σ T c) p.node).1 (walking_failed h.walk.walking wide l), seen_of)

    -- ---- one that is not is a leaf, and its record is compared
    module _ {n : ℕ} (e : Some n ≡ tried_of (meets σ T (depth p.node) p.curve) (reach_of g to place own)) where
      told : (meets σ T (depth p.node) p.curve ≡ true) × (n ≡ reach_of g to place own)
      told = told_narrow (meets σ T (depth p.node) p.curve) (reach_of g to place own) n e

      leaf : node_meets σ T c p.node ≡ true
      leaf = sym same_test ∙ told.0

      more : n ≡ reach_of g reach at (records_of σ k c (h.passed ++ p.node ∷ []))
      more =
          told.1 ∙ ap (reach_of g to place) own_is
          ∙ ap₂ (λ q r. reach_of g q r (record_of σ k c p.node)) h.is
          (h.here ∙ ap (λ m. at + m) (sym (records_length σ k c h.passed)))
          ∙ sym (reach_parts g reach at (records_of σ k c h.passed) (record_of σ k c p.node))
          ∙ ap (reach_of g reach at) (sym (records_snoc σ k c h.passed p.node))

      on : place + record_length σ ≡ at + record_length σ * length (h.passed ++ p.node ∷ [])
      on = omega (arith, h.here, ap (λ m. record_length σ * m) (length-append h.passed (p.node ∷ [])))

      module _ {step : ℕ} (whole : step ≡ record_length σ) {q : Part} (a : AfterOf p q) where
        pub seeing_after : (q.node ≡ 1 → ⊥) → Seeing σ T c k g reach at q (place + step) n
        seeing_after o = record { passed = h.passed ++ p.node ∷ []; walk = walk_after h.walk a o leaf; here = rw whole on; is = more }

        pub seeing_done : q.node ≡ 1 → seen (place + step) n ≡ seen_of σ T c k g reach at
        unfolding seen_of
        seeing_done o =
            let w = h.walk.walking in
            let l = sym a.node ∙ o in
            let d = walking_done w leaf l in
            rw ((none_exactly (node_meets σ T c) (ends_of σ T c)).1 (all_passed w leaf l), seen_of)
            (ap₂ seen (ap (λ m. place + m) whole ∙ on ∙ ap (λ ps. at + record_length σ * length ps) (sym d))
            (more ∙ ap (λ ps. reach_of g reach at (records_of σ k c ps)) (sym d)))
