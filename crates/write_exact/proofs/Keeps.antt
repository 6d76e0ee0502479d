-- What a line keeps of a curve of two to four points: its bytes, and its numbers.
use mathlib.Core.Path.{◌≡◌, refl}
use mathlib.Core.List.{List, [], ◌∷◌, ◌++◌, append_assoc, append-nil}
use Prim.Native.Nat.{ℕ, ◌-◌}
use lib.ListN.{length}
use lib.IntN.{ℤ, pos}
use Rattle.text_forms.specs.declared.forms.Points.{Points}
use Rattle.text_forms.specs.Forms.{curve_word, closing, points}
use Rattle.text_lines.specs.Meaning.{numbers_of_curve}
use Rattle.write_exact.specs.Written.{curve_line}
use Rattle.write_exact.specs.Texts.{pairs_bytes, point_numbers}

abbrev pub curve_bytes : List (ℤ × ℤ) → List ℕ
curve_bytes c = curve_word ++ pairs_bytes c ++ closing

pub record Keeps (p : Points) (c : List (ℤ × ℤ)) : Type 0 where
  pub line : curve_line p ≡ curve_bytes c
  pub numbers : numbers_of_curve p ≡ pos (length c - 1) ∷ point_numbers c

module _ (a b : ℤ × ℤ) where
  pub keeps_two : Keeps (points (pos 1) a.0 a.1 b.0 b.1 (pos 0) (pos 0) (pos 0) (pos 0)) (a ∷ b ∷ [])
  unfolding curve_line pairs_bytes numbers_of_curve point_numbers
  keeps_two = record { line = simp (append_assoc, append-nil); numbers = refl }

  pub keeps_three : (c : ℤ × ℤ) → Keeps (points (pos 2) a.0 a.1 b.0 b.1 c.0 c.1 (pos 0) (pos 0)) (a ∷ b ∷ c ∷ [])
  unfolding curve_line pairs_bytes numbers_of_curve point_numbers
  keeps_three c = record { line = simp (append_assoc, append-nil); numbers = refl }

  pub keeps_four : (c d : ℤ × ℤ) → Keeps (points (pos 3) a.0 a.1 b.0 b.1 c.0 c.1 d.0 d.1) (a ∷ b ∷ c ∷ d ∷ [])
  unfolding curve_line pairs_bytes numbers_of_curve point_numbers
  keeps_four c d = record { line = simp (append_assoc, append-nil); numbers = refl }
