-- Document 01's four lines, and lines that are no form, each by computation.
use mathlib.Core.Path.{◌≡◌, refl}
use mathlib.Core.List.{List, [], ◌∷◌, ◌++◌}
use Prim.Native.Nat.{ℕ}
use lib.IntN.{pos}
use Rattle.std.specs.Prelude.{Some, None}
use Rattle.text_numbers.specs.Numerals.{value_from, digit_count, natural_at, number_at}
use Rattle.text_forms.specs.declared.forms.Form.TheVariants.{Curve, Point}
use Rattle.text_forms.specs.Pairs.{starts_with, number_then, pair_at, spaced_pair_at}
use Rattle.text_forms.specs.Forms.{tolerance_word, curve_word, point_word, points, tolerance_form_at, point_form_at, curve_end, curve_fourth, curve_third}
use Rattle.text_forms.specs.Forms.{curve_form_at, form_at}

-- ")" and byte 10
abbrev end : List ℕ
end = 41 ∷ 10 ∷ []

-- " (0 0)", " (10 30)", " (240 363)"
abbrev origin : List ℕ
origin = 32 ∷ 40 ∷ 48 ∷ 32 ∷ 48 ∷ 41 ∷ []

abbrev ten_thirty : List ℕ
ten_thirty = 32 ∷ 40 ∷ 49 ∷ 48 ∷ 32 ∷ 51 ∷ 48 ∷ 41 ∷ []

abbrev measured : List ℕ
measured = 32 ∷ 40 ∷ 50 ∷ 52 ∷ 48 ∷ 32 ∷ 51 ∷ 54 ∷ 51 ∷ 41 ∷ []

-- ---- forms
pub point_240_363 : form_at (point_word ++ measured ++ end) 0 ≡ Some (Point (pos 240) (pos 363) 18)
unfolding form_at starts_with point_form_at spaced_pair_at pair_at number_then number_at natural_at value_from digit_count
point_240_363 = refl

pub two_points : form_at (curve_word ++ origin ++ ten_thirty ++ end) 0 ≡ Some (Curve
    (points (pos 1) (pos 0) (pos 0) (pos 10) (pos 30) (pos 0) (pos 0) (pos 0) (pos 0)) 22)
unfolding form_at starts_with curve_form_at curve_third curve_end spaced_pair_at pair_at number_then number_at natural_at value_from digit_count
two_points = refl

pub four_points : form_at (curve_word ++ origin ++ ten_thirty ++ ten_thirty ++ origin ++ end) 0
    ≡ Some (Curve (points (pos 3) (pos 0) (pos 0) (pos 10) (pos 30) (pos 10) (pos 30) (pos 0) (pos 0)) 36)
unfolding form_at starts_with curve_form_at curve_third curve_fourth curve_end spaced_pair_at pair_at number_then number_at natural_at value_from digit_count
four_points = refl

-- ---- no forms: one point, five points
pub one_point : form_at (curve_word ++ origin ++ end) 0 ≡ None
unfolding form_at starts_with curve_form_at spaced_pair_at pair_at number_then number_at natural_at value_from digit_count
one_point = refl

pub five_points : form_at (curve_word ++ origin ++ origin ++ origin ++ origin ++ origin ++ end) 0 ≡ None
unfolding form_at starts_with curve_form_at curve_third curve_fourth curve_end spaced_pair_at pair_at number_then number_at natural_at value_from digit_count
five_points = refl

-- two spaces, 007, CR before byte 10, no byte 10, a space before the end
pub two_spaces : form_at (tolerance_word ++ (32 ∷ 52 ∷ 52 ∷ end)) 0 ≡ None
unfolding form_at starts_with tolerance_form_at number_at natural_at value_from digit_count
two_spaces = refl

pub leading_zeros : form_at (tolerance_word ++ (48 ∷ 48 ∷ 55 ∷ end)) 0 ≡ None
unfolding form_at starts_with tolerance_form_at number_at natural_at value_from digit_count
leading_zeros = refl

pub carriage_return : form_at (tolerance_word ++ (52 ∷ 52 ∷ 41 ∷ 13 ∷ 10 ∷ [])) 0 ≡ None
unfolding form_at starts_with tolerance_form_at number_at natural_at value_from digit_count
carriage_return = refl

pub not_ended : form_at (tolerance_word ++ (52 ∷ 52 ∷ 41 ∷ [])) 0 ≡ None
unfolding form_at starts_with tolerance_form_at number_at natural_at value_from digit_count
not_ended = refl

pub space_at_end : form_at (point_word ++ measured ++ (32 ∷ end)) 0 ≡ None
unfolding form_at starts_with point_form_at spaced_pair_at pair_at number_then number_at natural_at value_from digit_count
space_at_end = refl
