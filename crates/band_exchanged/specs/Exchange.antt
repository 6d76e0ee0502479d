-- Exchanging one curve of an outline whose records are there (document 02, request 12): what is answered in a setting,
-- and what stands in the caller's list afterwards.
use Rattle.std.specs.Prelude.{true, false, ◌&&◌, List, [], ◌∷◌, ℕ, suc, min, eqb, leb, ltb, length, take, ℤ, Result, Ok}
use Rattle.std.specs.Prelude.{Err}
use Rattle.std.proofs.Math.Option.{Option, none, some}
use Rattle.setting.specs.Setting.{Setting}
use Rattle.integers.specs.Equal.{equal}
use Rattle.refusals.specs.declared.Refusal.{Refusal}
use Rattle.refusals.specs.declared.Refusal.TheVariants.{NoSuchCurve, OtherRecords}
use Rattle.outline.specs.Checks.{outlined}
use Rattle.outline_changed.specs.Changed.{changed}
use Rattle.band_records.specs.Records.{all_records}
use Rattle.band_passes.specs.Leaves.{curves_of}
use Rattle.band_banded.specs.declared.banding.Banded.{Banded}
use Rattle.band_banded.specs.Banding.{banded, written_by}

-- the records of an outline's leaves
abbrev pub records_for : Setting → ℤ → List ℤ → List ℤ
records_for σ T ns = all_records σ T 0 (curves_of (outlined σ.most σ.pieces ns))

-- ---- 23: the first index at which two lists differ, as far as both go; i is the index of their first numbers
unfoldable pub first_different : List ℤ → List ℤ → ℕ → Option ℕ
first_different [] ys i = none
first_different (x ∷ xs) [] i = none
first_different (x ∷ xs) (y ∷ ys) i = elim (equal x y) [ true ↦ first_different xs ys (suc i) | false ↦ some i ]

-- the records given are the first `count` numbers of the lent list; `own` are the outline's
unfoldable pub other_records : (count : ℕ) → (lent own : List ℤ) → Option ℕ
other_records count lent own =
    elim (first_different (take count lent) own 0) [
      | some i ↦ some i
      | none ↦
          elim (eqb count (length own) && leb count (length lent)) [
            | true ↦ none
            | false ↦ some (min count (min (length lent) (length own)))
          ]
    ]

-- ---- the answer: the old outline's own refusals, as banding has them where there is room; 22; 23; then banding of the
-- changed outline
abbrev pub exchanged_after : (old : Result Banded Refusal) → (k : ℕ) → (others : Option ℕ)
    → (new : Result Banded Refusal) → Result Banded Refusal
exchanged_after (Err r) k others new = Err r
exchanged_after (Ok b) k others new =
    elim (ltb k b.curves) [
      | false ↦ Err (NoSuchCurve k)
      | true ↦ elim others [ some i ↦ Err (OtherRecords i) | none ↦ new ]
    ]

unfoldable pub exchanged : Setting → ℤ → List ℤ → (k : ℕ) → (new : List ℤ) → (count : ℕ) → (lent : List ℤ)
    → Result Banded Refusal
exchanged σ T ns k new count lent =
    exchanged_after (banded σ T ns (length (records_for σ T ns))) k (other_records count lent (records_for σ T ns))
    (banded σ T (changed ns k new) (length lent))

-- ---- the caller's list afterwards: the changed outline's records in front of what stood behind them; a refusal alters
-- nothing
unfoldable pub exchanged_list : Setting → ℤ → List ℤ → (k : ℕ) → (new : List ℤ) → (count : ℕ) → (lent : List ℤ) → List ℤ
exchanged_list σ T ns k new count lent =
    written_by (exchanged σ T ns k new count lent) (records_for σ T (changed ns k new)) lent
