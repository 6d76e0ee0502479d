-- Lines that a text can have, byte for byte: (tolerance 44), (curve (0 0) (10 30)) with two to four points,
-- (point (240 363)). `form_exactly` of crates/write_exact/proofs/Lines.antt says that a line is read as a form exactly
-- where it is one of these.
use Rattle.std.specs.Prelude.{◌≡◌, cond, List, [], ◌∷◌, ◌++◌, ℕ, ◌+◌, length, drop, ℤ, pos, Some, None}
use Rattle.std.specs.Int.Signed.{lt_z}
use Rattle.text_forms.specs.declared.forms.Points.{Points}
use Rattle.text_forms.specs.declared.forms.Form.TheVariants.{Tolerance, Curve, Point}
use Rattle.text_forms.specs.Forms.{tolerance_word, curve_word, point_word, closing}
use Rattle.text_lines.specs.Lines.{Line}
use Rattle.write_numbers.specs.Decimals.{decimal}

-- the bytes of a text s from place i up to place j
pub record Written (s : List ℕ) (i j : ℕ) (bytes : List ℕ) : Type 0 where
  pub bytes_there : drop i s ≡ bytes ++ drop j s
  pub end_there : j ≡ i + length bytes

-- " (x y)"
unfoldable pub pair_bytes : ℤ → ℤ → List ℕ
pair_bytes x y = 32 ∷ 40 ∷ (decimal x ++ (32 ∷ []) ++ (decimal y ++ (41 ∷ [])))

unfoldable pub tolerance_line : ℤ → List ℕ
tolerance_line T = tolerance_word ++ decimal T ++ closing

unfoldable pub point_line : ℤ → ℤ → List ℕ
point_line x y = point_word ++ pair_bytes x y ++ closing

unfoldable pub curve_line : Points → List ℕ
curve_line p =
    curve_word ++ pair_bytes p.x0 p.y0 ++ pair_bytes p.x1 p.y1
    ++ cond (lt_z p.degree (pos 2)) [] (pair_bytes p.x2 p.y2)
    ++ cond (lt_z p.degree (pos 3)) [] (pair_bytes p.x3 p.y3)
    ++ closing

-- the line of a form that was read at place `start` stands there
abbrev pub LineWritten : List ℕ → ℕ → Line → Type 0
LineWritten s start (Some (Tolerance T j)) = Written s start j (tolerance_line T)
LineWritten s start (Some (Curve p j)) = Written s start j (curve_line p)
LineWritten s start (Some (Point x y j)) = Written s start j (point_line x y)
LineWritten s start None = Unit
