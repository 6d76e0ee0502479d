-- The forms of a line (document 01, "Text program"), with single spaces as shown and byte 10 at the end:
--     (tolerance 44)
--     (curve (0 0) (10 30) (20 30) (30 0))         two to four points
--     (point (240 363))
-- A form is read from a place of the whole text on, and gives the place after it. Past the text's end stands byte 0,
-- which no form has, so a last line without byte 10 is none. That a word below has the bytes that it should is seen
-- where the code, which spells it, is proved.
use Rattle.std.specs.Prelude.{cond, List, [], ◌∷◌, ℕ, ◌+◌, ℤ, pos, Option, Some, None}
use Rattle.text_numbers.specs.Numerals.{number_at}
use Rattle.text_forms.specs.Pairs.{word_at, spaced_pair_at}
use Rattle.text_forms.specs.declared.forms.Points.{Points}
use Rattle.text_forms.specs.declared.forms.Form.{Form}
use Rattle.text_forms.specs.declared.forms.Form.TheVariants.{Tolerance, Curve, Point}

-- ---- words: "(tolerance ", "(curve", "(point"
abbrev pub tolerance_word : List ℕ
tolerance_word = 40 ∷ 116 ∷ 111 ∷ 108 ∷ 101 ∷ 114 ∷ 97 ∷ 110 ∷ 99 ∷ 101 ∷ 32 ∷ []

abbrev pub curve_word : List ℕ
curve_word = 40 ∷ 99 ∷ 117 ∷ 114 ∷ 118 ∷ 101 ∷ []

abbrev pub point_word : List ℕ
point_word = 40 ∷ 112 ∷ 111 ∷ 105 ∷ 110 ∷ 116 ∷ []

-- ")" and the end of the line
abbrev pub closing : List ℕ
closing = 41 ∷ 10 ∷ []

-- ---- the lines, each after its word
unfoldable pub tolerance_form_at : List ℕ → ℕ → Option Form
tolerance_form_at s i =
    elim (number_at s i) [
      | Some (t, j) ↦ cond (word_at closing s j) (Some (Tolerance t (j + 2))) None
      | None ↦ None
    ]

unfoldable pub point_form_at : List ℕ → ℕ → Option Form
point_form_at s i =
    elim (spaced_pair_at s i) [
      | Some (x, y, j) ↦ cond (word_at closing s j) (Some (Point x y (j + 2))) None
      | None ↦ None
    ]

abbrev pub points : ℤ → ℤ → ℤ → ℤ → ℤ → ℤ → ℤ → ℤ → ℤ → Points
points d a b e f g h k l = record { degree = d; x0 = a; y0 = b; x1 = e; y1 = f; x2 = g; y2 = h; x3 = k; y3 = l }

-- after the last point
unfoldable pub curve_end : List ℕ → ℕ → Points → Option Form
curve_end s i p = cond (word_at closing s i) (Some (Curve p (i + 2))) None

-- after three points: a fourth and the end, or the end
unfoldable pub curve_fourth : List ℕ → ℕ → Points → Option Form
curve_fourth s i p =
    elim (spaced_pair_at s i) [
      | Some (x, y, j) ↦ curve_end s j (points (pos 3) p.x0 p.y0 p.x1 p.y1 p.x2 p.y2 x y)
      | None ↦ curve_end s i p
    ]

-- after two points: a third and what may follow it, or the end
unfoldable pub curve_third : List ℕ → ℕ → Points → Option Form
curve_third s i p =
    elim (spaced_pair_at s i) [
      | Some (x, y, j) ↦ curve_fourth s j (points (pos 2) p.x0 p.y0 p.x1 p.y1 x y p.x3 p.y3)
      | None ↦ curve_end s i p
    ]

unfoldable pub curve_form_at : List ℕ → ℕ → Option Form
curve_form_at s i =
    elim (spaced_pair_at s i) [
      | Some (x0, y0, j) ↦ elim (spaced_pair_at s j) [
        | Some (x1, y1, k) ↦ curve_third s k (points (pos 1) x0 y0 x1 y1 (pos 0) (pos 0) (pos 0) (pos 0))
        | None ↦ None
      ]
      | None ↦ None
    ]

-- ---- the form of the line that starts at place i, and the place after it
unfoldable pub form_at : List ℕ → ℕ → Option Form
form_at s i =
    cond (word_at tolerance_word s i) (tolerance_form_at s (i + 11))
    (cond (word_at curve_word s i) (curve_form_at s (i + 6))
    (cond (word_at point_word s i) (point_form_at s (i + 6))
    None))
