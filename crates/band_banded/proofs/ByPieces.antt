-- What banding finds of curves goes by the pieces and the scale of a setting and its limit of leaves; a limit of curves changes nothing of it.
use mathlib.Core.Path.{◌≡◌, refl, ap, ap₂}
use mathlib.Core.List.{List, [], ◌∷◌, ◌++◌}
use mathlib.Core.Option.{Option, none, some}
use Prim.Native.Nat.{ℕ, zero, suc, ◌+◌}
use lib.ListN.{length}
use lib.IntN.{ℤ}
use Rattle.setting.specs.Setting.{Setting, relimited, lists_of, break_points, deepest}
use Rattle.std.specs.Prelude.{Result, Ok, Err}
use Rattle.refusals.specs.declared.Refusal.{Refusal}
use Rattle.refusals.specs.declared.Refusal.TheVariants.{TooWide}
use Rattle.curve_nodes.specs.declared.Curve.{Curve}
use Rattle.curve_nodes.specs.Nodes.{depth, node_curve}
use Rattle.bound_node.specs.Boxes.{box_at, meets}
use Rattle.walk_tree.specs.Tree.{met, first_failing}
use Rattle.walk_curve.specs.Walked.{node_meets, ends_of}
use Rattle.band_records.specs.Records.{box_numbers, boxes_to, node_numbers, record_of, records_of, all_records}
use Rattle.band_passes.specs.Leaves.{first_too_wide, leaves_of, nodes_of}
use Rattle.band_passes.specs.Inside.{counted_of}
use Rattle.band_banded.specs.Banding.{answer_for, band_curves}

-- a caller who gives lists, with the same pieces and scale
abbrev pub listed : Setting → Setting
listed σ = lists_of σ.pieces σ.sixths

-- what the first pass finds, from the first node that is too wide and the number of leaves
abbrev pub counted : Option Refusal → ℕ → Result ℕ Refusal
counted o l = elim o [ some r ↦ Err r | none ↦ Ok l ]

-- any other setting of the same pieces and scale
module _ (σ : Setting) (most leaves : ℕ) where
  abbrev other : Setting
  other = relimited σ most leaves

  boxes_same : (n k : ℕ) (c : Curve) → boxes_to σ n k c ≡ boxes_to other n k c
  unfolding box_at
  boxes_same zero k c = refl
  boxes_same (suc n) k c = ap (λ bs. bs ++ box_numbers (box_at σ k c n)) (boxes_same n k c)

  records_same : (k : ℕ) (c : Curve) (ns : List ℕ) → records_of σ k c ns ≡ records_of other k c ns
  unfolding records_of record_of
  records_same k c [] = refl
  records_same k c (n ∷ ns) =
      ap₂ (λ bs rs. node_numbers k n bs ++ rs) (boxes_same (break_points σ) (depth n) (node_curve c n)) (records_same k c ns)

  module _ (T : ℤ) where
    pub all_records_same : (k : ℕ) (cs : List Curve) → all_records σ T k cs ≡ all_records other T k cs
    unfolding all_records meets box_at
    all_records_same k [] = refl
    all_records_same k (c ∷ cs) = ap₂ (λ rs qs. rs ++ qs) (records_same k c (ends_of σ T c)) (all_records_same (suc k) cs)

    pub wide_same : (k : ℕ) (cs : List Curve) → first_too_wide σ T k cs ≡ first_too_wide other T k cs
    unfolding first_too_wide meets box_at
    wide_same k [] = refl
    wide_same k (c ∷ cs) =
        ap (λ (o : Option Refusal). elim (first_failing (node_meets σ T c) (ends_of σ T c)) [ some n ↦ some (TooWide k n) | none ↦ o ])
        (wide_same (suc k) cs)

    pub leaves_same : (cs : List Curve) → leaves_of σ T cs ≡ leaves_of other T cs
    unfolding leaves_of meets box_at
    leaves_same [] = refl
    leaves_same (c ∷ cs) = ap (λ n. length (ends_of σ T c) + n) (leaves_same cs)

    pub nodes_same : (cs : List Curve) → nodes_of σ T cs ≡ nodes_of other T cs
    unfolding nodes_of meets box_at
    nodes_same [] = refl
    nodes_same (c ∷ cs) = ap (λ n. met (node_meets σ T c) (deepest c.degree) 1 + n) (nodes_same cs)

    pub counted_same : (cs : List Curve) → counted_of σ T cs ≡ counted_of other T cs
    unfolding counted_of
    counted_same cs = ap₂ counted (wide_same 0 cs) (leaves_same cs)

-- the answer reads the limit of leaves and the pieces alone
answer_same : (σ : Setting) (most room : ℕ) (o : Option Refusal) (n l k : ℕ)
    → answer_for σ room o n l k ≡ answer_for (relimited σ most σ.leaves) room o n l k
answer_same σ most room none n l k = refl
answer_same σ most room (some r) n l k = refl

pub band_curves_same : (σ : Setting) (most : ℕ) (T : ℤ) (cs : List Curve) (room : ℕ)
    → band_curves σ T cs room ≡ band_curves (relimited σ most σ.leaves) T cs room
unfolding band_curves
band_curves_same σ most T cs room =
    let wide = wide_same σ most σ.leaves T 0 cs in
    let leaves = leaves_same σ most σ.leaves T cs in
    let nodes = nodes_same σ most σ.leaves T cs in
    rw (wide, leaves, nodes) (answer_same σ most room (first_too_wide (other σ most σ.leaves) T 0 cs) (length cs) _ _)
