-- Boxes handed out in binary64, in numbers: 0 and 0 and the box in stage units or its short form, or a refusal's number
-- and spot and zeros.
use Rattle.std.specs.Prelude.{◌≡◌, false, Result, Ok, Err, pos, Float}
use Rattle.std.specs.Float.{fin}
use Rattle.refusals.specs.declared.Refusal.{Refusal}
use Rattle.refusals.specs.Refusals.{number_of, spot_of}
use Rattle.boxes.specs.declared.Box.{Box}
use Rattle.boxes_binary64.specs.declared.Short.{Short}
use Rattle.boxes_binary64.specs.declared.Short.TheVariants.{Point, Middle}
use Rattle.boxes_binary64.specs.declared.StageBox.{StageBox}
use Rattle.boxes_binary64.specs.Boxes.{HandedOut, Shortened}
use Rattle.contour.specs.declared.c_answers.BoxUnits.{BoxUnits}
use Rattle.contour.specs.declared.c_answers.BoxShort.{BoxShort}

-- the number 0.0 in binary64
abbrev pub zero_float : Float
zero_float = fin false 0 (pos 0)

abbrev pub units_of : Result StageBox Refusal → BoxUnits
units_of (Ok r) = record {
  refusal = 0;
  spot = 0;
  x_low = r.x_low;
  x_high = r.x_high;
  y_low = r.y_low;
  y_high = r.y_high;
}
units_of (Err q) = record {
  refusal = number_of q;
  spot = spot_of q;
  x_low = zero_float;
  x_high = zero_float;
  y_low = zero_float;
  y_high = zero_float;
}

-- kind 1 is a point, kind 2 a middle
abbrev pub form_of : Short → BoxShort
form_of (Point x y) =
    record { refusal = 0; spot = 0; kind = 1; x = x; y = y; half_width = zero_float; half_height = zero_float }
form_of (Middle x y half-width half-height) =
    record { refusal = 0; spot = 0; kind = 2; x = x; y = y; half_width = half-width; half_height = half-height }

abbrev pub short_of : Result Short Refusal → BoxShort
short_of (Ok r) = form_of r
short_of (Err q) = record {
  refusal = number_of q;
  spot = spot_of q;
  kind = 0;
  x = zero_float;
  y = zero_float;
  half_width = zero_float;
  half_height = zero_float;
}

-- the numbers are those of an answer that handing out the box may give
pub record UnitsInNumbers (b : Box) (numbers : BoxUnits) : Type 0 where
  pub answer : Result StageBox Refusal
  pub handed : HandedOut b answer
  pub are : numbers ≡ units_of answer

-- the numbers are those of an answer that the box's short form may be given by
pub record ShortInNumbers (b : Box) (numbers : BoxShort) : Type 0 where
  pub answer : Result Short Refusal
  pub shortened : Shortened b answer
  pub are : numbers ≡ short_of answer
