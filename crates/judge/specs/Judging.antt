-- The checks of a leaf list and a point in document 01's order ("Place of each check"), and what judging answers
-- ("Judging").
use Rattle.std.specs.Prelude.{◌≡◌, true, false, List, ℕ, ◌*◌, ◌<◌, length, ℤ}
use Rattle.std.specs.Prelude.{Option as Maybe, Some, None, Result, Ok, Err}
use Rattle.std.proofs.Math.Option.{Option, none, some}
use Rattle.refusals.specs.declared.Refusal.{Refusal}
use Rattle.refusals.specs.declared.Refusal.TheVariants.{Pieces, LeafListLength, LeafListNumber, PointX, PointY}
use Rattle.boxes.specs.Ranges.{in_range}
use Rattle.setting.specs.Setting.{Setting, pieces_fine, covers, record_length}
use Rattle.judge_list.specs.Checks.{length_fine, number_fault}
use Rattle.judge_cover.specs.Covers.{CoverHolds}
use Rattle.judge.specs.declared.judging.Holder.{Holder}

-- ---- 11: x, then y
abbrev pub point_fault : ℤ → ℤ → Option Refusal
point_fault x y =
    elim (in_range x) [
      | false ↦ some PointX
      | true ↦ elim (in_range y) [ false ↦ some PointY | true ↦ none ]
    ]

-- ---- 18, 9 and 10 in this order: the checks that do not look at the point
abbrev pub list_fault : Setting → List ℤ → Option Refusal
list_fault σ ns =
    elim (pieces_fine σ.pieces) [
      | false ↦ some Pieces
      | true ↦ elim (length_fine σ (length ns)) [
        | false ↦ some (LeafListLength (length ns))
        | true ↦ elim (number_fault σ ns) [ some i ↦ some (LeafListNumber i) | none ↦ none ]
      ]
    ]

-- ---- 18, 9, 10 and 11 in this order
unfoldable pub judging_fault : Setting → List ℤ → (x y : ℤ) → Option Refusal
judging_fault σ ns x y = elim (list_fault σ ns) [ some r ↦ some r | none ↦ point_fault x y ]

-- a list that passes 9 and 10
pub record Passed (σ : Setting) (ns : List ℤ) : Type 0 where
  pub whole : length_fine σ (length ns) ≡ true
  pub numbers : number_fault σ ns ≡ none

-- ---- the first holder of a point (document 02, request 01): cover i of record k holds it, and no cover of an earlier
-- record of the list and no lower cover of record k does
pub record FirstHolder (σ : Setting) (ns : List ℤ) (x y : ℤ) (k i : ℕ) : Type 0 where
  pub inside : record_length σ * k < length ns
  pub cover : i < covers σ
  pub holds : CoverHolds σ ns k i x y
  pub none_earlier : (j q : ℕ) → j < k → q < covers σ → CoverHolds σ ns j q x y → ⊥
  pub none_lower : (q : ℕ) → q < i → CoverHolds σ ns k q x y → ⊥

-- ---- what the answer says: on names the first holder of the point; off says that no cover of any record holds it
abbrev pub Judgement : Type 0
Judgement = Result (Maybe Holder) Refusal

abbrev pub on : (leaf cover : ℕ) → Judgement
on k i = Ok (Some (record { leaf = k; cover = i }))

abbrev pub off : Judgement
off = Ok None

abbrev pub Verdict : Setting → Option Refusal → List ℤ → (x y : ℤ) → Judgement → Type 0
Verdict σ (some r) ns x y answer = answer ≡ Err r
Verdict σ none ns x y (Ok (Some h)) = FirstHolder σ ns x y h.leaf h.cover
Verdict σ none ns x y (Ok None) =
    (k i : ℕ) → record_length σ * k < length ns → i < covers σ → CoverHolds σ ns k i x y → ⊥
Verdict σ none ns x y (Err r) = ⊥

abbrev pub Judged : Setting → List ℤ → (x y : ℤ) → Judgement → Type 0
Judged σ ns x y answer = Verdict σ (judging_fault σ ns x y) ns x y answer
