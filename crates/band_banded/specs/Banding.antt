-- What banding answers in a setting, and what it leaves in the caller's list (document 01). What a caller gives is a
-- list of curves or the first fault of it: of an outline, in integers or in binary64 (request 10), or of a B-spline's
-- points (request 13).
use Rattle.std.specs.Prelude.{true, false, Result, Ok, Err, List, ◌++◌, ℕ, ◌*◌, ltb, length, drop, ℤ, Float}
use Rattle.std.proofs.Math.Option.{Option, none, some}
use Rattle.setting.specs.Setting.{Setting, lists, splines, pieces_fine, record_length}
use Rattle.refusals.specs.declared.Refusal.{Refusal}
use Rattle.refusals.specs.declared.Refusal.TheVariants.{Tolerance, TooFewRecords, Pieces, TooManyLeaves}
use Rattle.curve_nodes.specs.declared.Curve.{Curve}
use Rattle.outline.specs.Checks.{tolerance_fine, Outlined, curves, faulty, outlined}
use Rattle.outline_binary64.specs.Lists.{outlined_binary64}
use Rattle.outline_splines.specs.Splines.{splined}
use Rattle.band_banded.specs.declared.banding.Banded.{Banded}
use Rattle.band_records.specs.Records.{all_records}
use Rattle.band_passes.specs.Leaves.{first_too_wide, leaves_of, nodes_of, curves_of}

-- the report: a curves, b leaves and c nodes
abbrev pub done : (a b c : ℕ) → Result Banded Refusal
done a b c = Ok (record { curves = a; leaves = b; nodes = c })

-- ---- the answer to what the walk of the curves finds, with `room` numbers lent: 7, then 19, then 8, then the report
abbrev pub answer_for : Setting → (room : ℕ) → (tooWide : Option Refusal) → (count leaves nodes : ℕ)
    → Result Banded Refusal
answer_for σ room (some r) count leaves nodes = Err r
answer_for σ room none count leaves nodes =
    elim (ltb σ.leaves leaves) [
      | true ↦ Err (TooManyLeaves leaves)
      | false ↦
          elim (ltb room (record_length σ * leaves)) [
            | true ↦ Err (TooFewRecords leaves)
            | false ↦ done count leaves nodes
          ]
    ]

unfoldable pub band_curves : Setting → ℤ → List Curve → ℕ → Result Banded Refusal
band_curves σ T cs room = answer_for σ room (first_too_wide σ T 0 cs) (length cs) (leaves_of σ T cs) (nodes_of σ T cs)

abbrev pub band_outlined : Setting → ℤ → Outlined → ℕ → Result Banded Refusal
band_outlined σ T (faulty r) room = Err r
band_outlined σ T (curves cs) room = band_curves σ T cs room

-- 18, then 1, then what is given
unfoldable pub band_given : Setting → ℤ → Outlined → ℕ → Result Banded Refusal
band_given σ T o room =
    elim (pieces_fine σ.pieces) [
      | false ↦ Err Pieces
      | true ↦ elim (tolerance_fine T) [ false ↦ Err Tolerance | true ↦ band_outlined σ T o room ]
    ]

-- ---- the caller's list afterwards: the records, then the rest of the list as it was; a refusal alters nothing
abbrev pub written_by : Result Banded Refusal → List ℤ → List ℤ → List ℤ
written_by (Err r) records old = old
written_by (Ok b) records old = records ++ drop (length records) old

unfoldable pub written_given : Setting → ℤ → Outlined → List ℤ → List ℤ
written_given σ T o old = written_by (band_given σ T o (length old)) (all_records σ T 0 (curves_of o)) old

-- ---- an outline
abbrev pub banded : Setting → ℤ → List ℤ → ℕ → Result Banded Refusal
banded σ T ns room = band_given σ T (outlined σ.most σ.pieces ns) room

abbrev pub written : Setting → ℤ → List ℤ → List ℤ → List ℤ
written σ T ns old = written_given σ T (outlined σ.most σ.pieces ns) old

-- ---- an outline in binary64, and m pieces
abbrev pub banded_binary64 : ℕ → ℤ → List Float → ℕ → Result Banded Refusal
banded_binary64 m T xs room = band_given (lists m) T (outlined_binary64 4096 m xs) room

abbrev pub written_binary64 : ℕ → ℤ → List Float → List ℤ → List ℤ
written_binary64 m T xs old = written_given (lists m) T (outlined_binary64 4096 m xs) old

-- ---- the points of a B-spline, and m pieces
abbrev pub banded_spline : ℕ → ℤ → List ℤ → ℕ → Result Banded Refusal
banded_spline m T ns room = band_given (splines m) T (splined ns) room

abbrev pub written_spline : ℕ → ℤ → List ℤ → List ℤ → List ℤ
written_spline m T ns old = written_given (splines m) T (splined ns) old
