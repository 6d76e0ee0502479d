-- Texts byte for byte: which forms a line can have, and the text that a tolerance, curves and points make, line after
-- line (document 01, "Text program"). A curve is its points, two to four of them, and every number has 32 bits signed.
-- `text_exactly` of crates/write_exact/proofs/Accepted.antt: a text has a meaning exactly where it is such a text, and
-- means this tolerance, this outline and these points.
use Rattle.std.specs.Prelude.{◌≡◌, List, [], ◌∷◌, ◌++◌, ℕ, ◌-◌, ◌^◌, ◌≤◌, ◌<◌, length, ℤ, pos}
use Rattle.std.specs.Int.Signed.{mag}
use Rattle.text_forms.specs.declared.forms.Form.{Form}
use Rattle.text_forms.specs.declared.forms.Form.TheVariants.{Tolerance, Curve, Point}
use Rattle.text_forms.specs.Forms.{curve_word, closing, points}
use Rattle.text_lines.specs.Meaning.{most_bytes}
use Rattle.write_exact.specs.Written.{pair_bytes, tolerance_line, point_line}

-- ---- numbers of 32 bits signed
abbrev pub In32 : ℤ → Type 0
In32 z = mag z < 2 ^ 31

abbrev pub PointsIn32 : List (ℤ × ℤ) → Type 0
PointsIn32 [] = Unit
PointsIn32 (p ∷ ps) = In32 p.0 × In32 p.1 × PointsIn32 ps

-- ---- a form that a line can have: a tolerance, a curve of two to four points (what is kept past them is 0), a point
pub data Legal : Form → Type 0 where
  tolerance : {T : ℤ} {j : ℕ} → In32 T → Legal (Tolerance T j)
  two : {x0 y0 x1 y1 : ℤ} {j : ℕ} → PointsIn32 ((x0, y0) ∷ (x1, y1) ∷ [])
      → Legal (Curve (points (pos 1) x0 y0 x1 y1 (pos 0) (pos 0) (pos 0) (pos 0)) j)
  three : {x0 y0 x1 y1 x2 y2 : ℤ} {j : ℕ} → PointsIn32 ((x0, y0) ∷ (x1, y1) ∷ (x2, y2) ∷ [])
      → Legal (Curve (points (pos 2) x0 y0 x1 y1 x2 y2 (pos 0) (pos 0)) j)
  four : {x0 y0 x1 y1 x2 y2 x3 y3 : ℤ} {j : ℕ} → PointsIn32 ((x0, y0) ∷ (x1, y1) ∷ (x2, y2) ∷ (x3, y3) ∷ [])
      → Legal (Curve (points (pos 3) x0 y0 x1 y1 x2 y2 x3 y3) j)
  point : {x y : ℤ} {j : ℕ} → In32 x → In32 y → Legal (Point x y j)

-- ---- a curve of a text, which is its points
pub record TwoToFour (ps : List (ℤ × ℤ)) : Type 0 where
  pub least : 2 ≤ length ps
  pub most : length ps ≤ 4
  pub in_32 : PointsIn32 ps

abbrev pub CurvesIn32 : List (List (ℤ × ℤ)) → Type 0
CurvesIn32 [] = Unit
CurvesIn32 (c ∷ cs) = TwoToFour c × CurvesIn32 cs

-- ---- the text: the line of the tolerance, then those of the curves, then those of the points
unfoldable pub pairs_bytes : List (ℤ × ℤ) → List ℕ
pairs_bytes [] = []
pairs_bytes (p ∷ ps) = pair_bytes p.0 p.1 ++ pairs_bytes ps

unfoldable pub curves_text : List (List (ℤ × ℤ)) → List ℕ
curves_text [] = []
curves_text (c ∷ cs) = curve_word ++ pairs_bytes c ++ closing ++ curves_text cs

unfoldable pub points_text : List (ℤ × ℤ) → List ℕ
points_text [] = []
points_text (p ∷ ps) = point_line p.0 p.1 ++ points_text ps

unfoldable pub text_of : ℤ → List (List (ℤ × ℤ)) → List (ℤ × ℤ) → List ℕ
text_of T cs ps = tolerance_line T ++ curves_text cs ++ points_text ps

-- ---- the outline of the curves: of each its degree, which is the number of its points less one, then x and y of each
unfoldable pub point_numbers : List (ℤ × ℤ) → List ℤ
point_numbers [] = []
point_numbers (p ∷ ps) = p.0 ∷ p.1 ∷ point_numbers ps

unfoldable pub outline_of : List (List (ℤ × ℤ)) → List ℤ
outline_of [] = []
outline_of (c ∷ cs) = (pos (length c - 1) ∷ point_numbers c) ++ outline_of cs

-- ---- the text s is that of T, some curves and the points ps; `outline` is that of these curves
pub record IsText (s : List ℕ) (T : ℤ) (outline : List ℤ) (ps : List (ℤ × ℤ)) : Type 0 where
  pub curves : List (List (ℤ × ℤ))
  pub bytes : s ≡ text_of T curves ps
  pub outline_is : outline ≡ outline_of curves
  pub tolerance_in_32 : In32 T
  pub curves_in_32 : CurvesIn32 curves
  pub points_in_32 : PointsIn32 ps
  pub size : length s ≤ most_bytes
