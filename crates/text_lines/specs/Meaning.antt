-- What a text means, or which refusal it gets (document 01, "Text program" and rows 14 to 16 of "Place of each check").
use Rattle.std.specs.Prelude.{Bool, true, false, cond, List, [], ◌∷◌, ℕ, ◌+◌, ltb, length, ℤ, pos, Some, None}
use Rattle.std.proofs.Math.Option.{Option, none, some}
use Rattle.std.specs.Int.Signed.{lt_z}
use Rattle.refusals.specs.declared.Refusal.{Refusal}
use Rattle.refusals.specs.declared.Refusal.TheVariants.{NotAForm, OutOfOrder, TextTooLong}
use Rattle.text_forms.specs.declared.forms.Points.{Points}
use Rattle.text_forms.specs.declared.forms.Form.TheVariants.{Tolerance, Curve, Point}
use Rattle.text_lines.specs.Lines.{Line, lines_of, gather}

-- ---- the outline that the curve lines give: of each its degree, then x and y of its points
unfoldable pub numbers_of_curve : Points → List ℤ
numbers_of_curve p =
    p.degree ∷ p.x0 ∷ p.y0 ∷ p.x1 ∷ p.y1
    ∷ cond (lt_z p.degree (pos 2)) [] (p.x2 ∷ p.y2 ∷ cond (lt_z p.degree (pos 3)) [] (p.x3 ∷ p.y3 ∷ []))

abbrev pub curve_numbers : Line → List ℤ
curve_numbers (Some (Curve p next)) = numbers_of_curve p
curve_numbers (Some (Tolerance t next)) = []
curve_numbers (Some (Point x y next)) = []
curve_numbers None = []

-- ---- the points that the point lines give, in turn
abbrev pub point_of : Line → List (ℤ × ℤ)
point_of (Some (Point x y next)) = (x, y) ∷ []
point_of (Some (Tolerance t next)) = []
point_of (Some (Curve p next)) = []
point_of None = []

-- ---- the first fault of the lines after the first, which are numbered from n on: curves, then points. `late` says
-- whether a point came before them.
unfoldable pub fault_from : Bool → ℕ → List Line → Option Refusal
fault_from late n [] = none
fault_from late n (None ∷ ls) = some (NotAForm n)
fault_from late n (Some (Tolerance t next) ∷ ls) = some (OutOfOrder n)
fault_from late n (Some (Curve p next) ∷ ls) = cond late (some (OutOfOrder n)) (fault_from late (n + 1) ls)
fault_from late n (Some (Point x y next) ∷ ls) = fault_from true (n + 1) ls

-- ---- what lines mean: the first is the tolerance
pub data Meaning : Type 0 where
  refused : Refusal → Meaning
  means : (T : ℤ) (outline : List ℤ) (points : List (ℤ × ℤ)) → Meaning

-- the fault, where there is one
abbrev pub fault_or : Option Refusal → Meaning → Meaning
fault_or (some r) m = refused r
fault_or none m = m

unfoldable pub meaning_of : List Line → Meaning
meaning_of [] = refused (OutOfOrder 1)
meaning_of (None ∷ ls) = refused (NotAForm 1)
meaning_of (Some (Tolerance T next) ∷ ls) =
    fault_or (fault_from false 2 ls) (means T (gather curve_numbers ls) (gather point_of ls))
meaning_of (Some (Curve p next) ∷ ls) = refused (OutOfOrder 1)
meaning_of (Some (Point x y next) ∷ ls) = refused (OutOfOrder 1)

-- ---- what a text means: its size is tried first
abbrev pub most_bytes : ℕ
most_bytes = 16384

unfoldable pub meaning : List ℕ → Meaning
meaning s = cond (ltb most_bytes (length s)) (refused (TextTooLong (most_bytes + 1))) (meaning_of (lines_of s))
