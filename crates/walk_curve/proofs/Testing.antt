-- The test of the node that a walk stands at: what the verdict and the boxes ask, and what they tell.
use mathlib.Core.Path.{◌≡◌}
use mathlib.Core.Logic.{◌⊎◌, ⊎_elim}
use mathlib.Core.Bool.{Bool, true, false}
use mathlib.Core.List.{List}
use Prim.Native.Nat.{ℕ, ◌^◌, ◌≤◌, ◌<◌}
use lib.IntN.{ℤ, ◌*ℤ◌}
use mir.Syntax.{w64}
use mir.Val.{SFits}
use Rattle.integers.specs.Squares.{squared}
use Rattle.integers.proofs.Ranges.{stored}
use Rattle.integers.proofs.Machine.{fits!, is! }
use Rattle.setting.specs.Setting.{Setting, HasRows}
use Rattle.curve_nodes.specs.declared.Curve.{Curve}
use Rattle.curve_nodes.specs.Nodes.{depth}
use Rattle.curve_nodes.specs.Bounds.{Sized}
use Rattle.bound_coordinate.specs.Inside.{Small}
use Rattle.bound_coordinate.proofs.Coordinates.{bounded}
use Rattle.bound_node.specs.Boxes.{meets}
use Rattle.bound_pieces.specs.declared.Pieces.{Pieces}
use Rattle.bound_pieces.specs.Inside.{PiecesReady, pieces_of}
use Rattle.bound_tolerance.specs.declared.Tested.{Tested}
use Rattle.bound_tolerance.specs.declared.Tested.TheVariants.{Narrow, Wide, Open}
use Rattle.bound_tolerance.specs.Verdicts.{VerdictRight}
use Rattle.walk_curve.specs.declared.Part.{Part}
use Rattle.walk_curve.specs.Walked.{node_meets}
use Rattle.walk_curve.proofs.Parts.{part_low, part_high, part_meets, part_narrow, part_wide}
use Rattle.walk_curve.proofs.Walks.{WalkOf}

-- r says whether the node that a walk stands at meets T
abbrev pub Tells : {σ : Setting} {T : ℤ} {c : Curve} {passed : List ℕ} {p : Part} → WalkOf σ T c passed p → Bool → Type 0
Tells {σ} {T} {c} {passed} {p} w r = r ≡ node_meets σ T c p.node

-- the square of a tolerance of which the verdict tells nothing does not wrap
module _ {T : ℤ} (small : Small (2 ^ 27) T) where
  pub square_fits : SFits w64 (T *ℤ T)
  square_fits = fits! (search (small, bounded) depth 40) tt

  pub square_is : stored w64 (T *ℤ T) ≡ squared T
  square_is = is! (search (small, bounded) depth 40) tt

module _ {σ : Setting} {T : ℤ} {c : Curve} {passed : List ℕ} {p : Part} (w : WalkOf σ T c passed p) {k : ℕ} (e : k ≡ depth p.node) where
  -- of a curve of degree 1 to 3
  module _ {m : Pieces} {rows : List ℤ} (h : PiecesReady m rows) (low : c.degree ≤ 3) where
    pub verdict_asks : HasRows m.m × (m ≡ pieces_of m.m m.sixths) × Sized k p.curve × (p.curve.degree ≤ 3) × (k ≤ 8)
    verdict_asks = let q = part_low w.of low in rw e (h.has, h.is, q.0, q.1, q.2)

    pub boxes_ask : {v : Tested} → VerdictRight σ T k p.curve v → v ≡ Open
        → PiecesReady m rows × Sized k p.curve × (p.curve.degree ≤ 3) × (k ≤ 8) × (stored w64 (T *ℤ T) ≡ squared T)
    boxes_ask t o = let q = verdict_asks in (h, q.2, q.3, q.4, square_is (rw o at t))

  -- of one of degree 4 or 5
  module _ {m : Pieces} {rows : List ℤ} (h : PiecesReady m rows) (enough : 3 ≤ m.m) (high : 3 < c.degree) (whole : m.sixths ≡ false) where
    pub higher_verdict_asks : HasRows m.m × (m ≡ pieces_of m.m m.sixths) × (3 ≤ m.m) × Sized k p.curve × (3 < p.curve.degree)
        × (k ≤ 4) × (m.sixths ≡ false)
    higher_verdict_asks = let q = part_high w.of high in rw e (h.has, h.is, enough, q.0, q.1, q.2, whole)

    pub higher_boxes_ask : {v : Tested} → VerdictRight σ T k p.curve v → v ≡ Open → {own : Curve} → own ≡ p.curve
        → PiecesReady m rows × (3 ≤ m.m) × Sized k own × (3 < own.degree) × (k ≤ 4) × Small (2 ^ 27) T × (m.sixths ≡ false)
    higher_boxes_ask t o f = let q = higher_verdict_asks in rw f (h, enough, q.3, q.4, q.5, rw o at t, whole)

  -- the answer, whichever of the three told it
  pub tested {ℓ ℓ' ℓ''} : {A : Type ℓ} {B : Type ℓ'} {C : Type ℓ''} {v : Tested} {r : Bool} → VerdictRight σ T k p.curve v → A ⊎ (B ⊎ C)
      → (A → (v ≡ Narrow) × (r ≡ true)) → (B → (v ≡ Wide) × (r ≡ false)) → (C → r ≡ meets σ T k p.curve) → Tells w r
  tested t came narrow wide boxes =
      let at = w.of in
      ⊎_elim (λ a. part_narrow at σ T e t (narrow a).0 (narrow a).1)
      (⊎_elim (λ b. part_wide at σ T e t (wide b).0 (wide b).1) (λ d. part_meets at σ T e (boxes d))) came
