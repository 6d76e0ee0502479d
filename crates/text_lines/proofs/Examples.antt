-- Document 01's text, and texts that are refused, each by computation.
use mathlib.Core.Path.{◌≡◌, refl}
use mathlib.Core.List.{List, [], ◌∷◌, ◌++◌}
use Prim.Native.Nat.{ℕ}
use lib.IntN.{pos}
use lib.ListN.{replicate}
use Rattle.refusals.specs.declared.Refusal.TheVariants.{NotAForm, OutOfOrder, TextTooLong}
use Rattle.text_numbers.specs.Numerals.{value_from, digit_count, natural_at, number_at}
use Rattle.text_forms.specs.Pairs.{starts_with, number_then, pair_at, spaced_pair_at}
use Rattle.text_forms.specs.Forms.{tolerance_form_at, point_form_at, curve_end, curve_fourth, curve_third, curve_form_at, form_at}
use Rattle.text_lines.specs.Lines.{lines_from, lines_of, gather}
use Rattle.text_lines.specs.Meaning.{numbers_of_curve, fault_from, means, refused, meaning_of, meaning}

-- "(tolerance 44)"
abbrev tolerance : List ℕ
tolerance = 40 ∷ 116 ∷ 111 ∷ 108 ∷ 101 ∷ 114 ∷ 97 ∷ 110 ∷ 99 ∷ 101 ∷ 32 ∷ 52 ∷ 52 ∷ 41 ∷ 10 ∷ []

-- "(curve (0 0) (10 30) (20 30) (30 0))"
abbrev curve : List ℕ
curve =
    40 ∷ 99 ∷ 117 ∷ 114 ∷ 118 ∷ 101 ∷ 32 ∷ 40 ∷ 48 ∷ 32 ∷ 48 ∷ 41 ∷ 32 ∷ 40 ∷ 49 ∷ 48 ∷ 32 ∷ 51 ∷ 48 ∷ 41 ∷ 32 ∷ 40 ∷ 50 ∷ 48 ∷ 32 ∷ 51 ∷ 48 ∷ 41
    ∷ 32 ∷ 40 ∷ 51 ∷ 48 ∷ 32 ∷ 48 ∷ 41 ∷ 41 ∷ 10 ∷ []

-- "(point (240 363))", the last digit being a parameter
abbrev point : ℕ → List ℕ
point last = 40 ∷ 112 ∷ 111 ∷ 105 ∷ 110 ∷ 116 ∷ 32 ∷ 40 ∷ 50 ∷ 52 ∷ 48 ∷ 32 ∷ 51 ∷ 54 ∷ last ∷ 41 ∷ 41 ∷ 10 ∷ []

-- ---- document 01's text
abbrev pub listing : List ℕ
listing = tolerance ++ curve ++ point 51 ++ point 52

pub listing_means : meaning listing ≡ means (pos 44) (pos 3 ∷ pos 0 ∷ pos 0 ∷ pos 10 ∷ pos 30 ∷ pos 20 ∷ pos 30 ∷ pos 30 ∷ pos 0 ∷ [])
    ((pos 240, pos 363) ∷ (pos 240, pos 364) ∷ [])
unfolding meaning meaning_of fault_from numbers_of_curve lines_of lines_from gather form_at starts_with tolerance_form_at point_form_at curve_form_at curve_third
    curve_fourth curve_end spaced_pair_at pair_at number_then number_at natural_at value_from digit_count
listing_means = refl

-- ---- 15: an empty text, no tolerance first, a second tolerance, a curve after a point
pub empty_text : meaning [] ≡ refused (OutOfOrder 1)
unfolding meaning meaning_of lines_of lines_from
empty_text = refl

pub curve_first : meaning (curve ++ tolerance) ≡ refused (OutOfOrder 1)
unfolding meaning meaning_of lines_of lines_from form_at starts_with curve_form_at curve_third curve_fourth curve_end spaced_pair_at pair_at number_then number_at
    natural_at value_from digit_count
curve_first = refl

pub second_tolerance : meaning (tolerance ++ point 51 ++ tolerance) ≡ refused (OutOfOrder 3)
unfolding meaning meaning_of fault_from lines_of lines_from form_at starts_with tolerance_form_at point_form_at spaced_pair_at pair_at number_then number_at
    natural_at value_from digit_count
second_tolerance = refl

pub curve_after_point : meaning (tolerance ++ point 51 ++ curve) ≡ refused (OutOfOrder 3)
unfolding meaning meaning_of fault_from lines_of lines_from form_at starts_with tolerance_form_at point_form_at curve_form_at curve_third curve_fourth curve_end
    spaced_pair_at pair_at number_then number_at natural_at value_from digit_count
curve_after_point = refl

-- ---- 14: an empty line, a last line without byte 10, and before 15 on the same line
pub empty_line : meaning (10 ∷ []) ≡ refused (NotAForm 1)
unfolding meaning meaning_of lines_of lines_from form_at starts_with
empty_line = refl

pub not_ended : meaning (tolerance ++ (40 ∷ [])) ≡ refused (NotAForm 2)
unfolding meaning meaning_of fault_from lines_of lines_from form_at starts_with tolerance_form_at number_at natural_at value_from digit_count
not_ended = refl

-- "(curve (0 0))" after a point
pub form_before_order : meaning (tolerance ++ point 51 ++ (40 ∷ 99 ∷ 117 ∷ 114 ∷ 118 ∷ 101 ∷ 32 ∷ 40 ∷ 48 ∷ 32 ∷ 48 ∷ 41 ∷ 41 ∷ 10 ∷ []))
    ≡ refused (NotAForm 3)
unfolding meaning meaning_of fault_from lines_of lines_from form_at starts_with tolerance_form_at point_form_at curve_form_at spaced_pair_at pair_at number_then
    number_at natural_at value_from digit_count
form_before_order = refl

-- the first faulty line decides
pub first_fault : meaning (tolerance ++ tolerance ++ (10 ∷ [])) ≡ refused (OutOfOrder 2)
unfolding meaning meaning_of fault_from lines_of lines_from form_at starts_with tolerance_form_at number_at natural_at value_from digit_count
first_fault = refl

-- ---- a tolerance alone is in order
pub tolerance_alone : meaning tolerance ≡ means (pos 44) [] []
unfolding meaning meaning_of fault_from lines_of lines_from gather form_at starts_with tolerance_form_at number_at natural_at value_from digit_count
tolerance_alone = refl

-- ---- 16: 16,385 bytes; 16,384 are looked at
pub too_long : meaning (replicate 16385 10) ≡ refused (TextTooLong 16385)
unfolding meaning
too_long = refl

pub not_too_long : meaning (replicate 16384 10) ≡ refused (NotAForm 1)
unfolding meaning meaning_of lines_of lines_from form_at starts_with
not_too_long = refl
