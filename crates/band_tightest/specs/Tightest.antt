-- The tightest band that fits (document 02, request 14): the least tolerance from 2 to 1,048,576 at which banding meets
-- no refusal 7 and needs at most R leaves, or none.
use Rattle.std.specs.Prelude.{Bool, true, false, List, ℕ, ltb, ℤ, pos, Option, Some, None, Result, Ok, Err}
use Rattle.std.proofs.Math.Option.{none, some}
use Rattle.integers.specs.First.{first_bad}
use Rattle.setting.specs.Setting.{Setting, pieces_fine}
use Rattle.refusals.specs.declared.Refusal.{Refusal}
use Rattle.refusals.specs.declared.Refusal.TheVariants.{Pieces}
use Rattle.curve_nodes.specs.declared.Curve.{Curve}
use Rattle.outline.specs.Checks.{Outlined, curves, faulty, outlined}
use Rattle.band_passes.specs.Leaves.{first_too_wide, leaves_of}

-- at T banding meets refusal 7, or it needs more than R leaves
unfoldable pub too_tight : Setting → List Curve → (R T : ℕ) → Bool
too_tight σ cs R T =
    elim (first_too_wide σ (pos T) 0 cs) [ some r ↦ true | none ↦ ltb R (leaves_of σ (pos T) cs) ]

-- the first T that is not too tight, of the 1,048,575 from 2 on
unfoldable pub tightest_of : Setting → List Curve → (R : ℕ) → Result (Option ℕ) Refusal
tightest_of σ cs R = elim (first_bad (too_tight σ cs R) 1048575 2) [ some T ↦ Ok (Some T) | none ↦ Ok None ]

-- of what the outline's checks give, the first fault or the curves
abbrev pub tightest_outlined : Setting → Outlined → (R : ℕ) → Result (Option ℕ) Refusal
tightest_outlined σ (faulty r) R = Err r
tightest_outlined σ (curves cs) R = tightest_of σ cs R

-- 18, then the outline's checks as in banding, then the span
unfoldable pub tightest : Setting → List ℤ → (R : ℕ) → Result (Option ℕ) Refusal
tightest σ ns R =
    elim (pieces_fine σ.pieces) [
      | false ↦ Err Pieces
      | true ↦ tightest_outlined σ (outlined σ.most σ.pieces ns) R
    ]
