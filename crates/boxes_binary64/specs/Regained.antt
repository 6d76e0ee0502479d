-- The box regained from what was handed out, in sixteenths. No contract cites these; crates/boxes_binary64/proofs/
-- Regain.antt proves that it is the box.
use Rattle.std.specs.Prelude.{ℕ, ◌*◌, ◌/◌, ℤ, pos, ◌+ℤ◌, ◌-ℤ◌, Float}
use Rattle.std.specs.Float.{nan, inf, fin}
use Rattle.std.specs.Float.Ieee.{up, down}
use Rattle.integers.specs.Rounding.{floor}
use Rattle.boxes.specs.declared.Box.{Box}
use Rattle.binary64.specs.Exact.{signed}
use Rattle.boxes_binary64.specs.declared.StageBox.{StageBox}
use Rattle.boxes_binary64.specs.declared.Short.{Short}
use Rattle.boxes_binary64.specs.declared.Short.TheVariants.{Point, Middle}

-- d times x, which is m × 2^e, towards zero
abbrev pub times : ℕ → Float → ℤ
times d nan = pos 0
times d (inf s) = pos 0
times d (fin s m e) = signed s (m * up e * d / down e)

abbrev pub from_units : StageBox → Box
from_units r = record {
  x_low = times 16 r.x_low;
  x_high = times 16 r.x_high;
  y_low = times 16 r.y_low;
  y_high = times 16 r.y_high;
}

-- the middle less and plus a half width, both in thirty-seconds of a unit, as sixteenths
abbrev pub low_end : Float → Float → ℤ
low_end middle half = floor (times 32 middle -ℤ times 32 half) (pos 2)

abbrev pub high_end : Float → Float → ℤ
high_end middle half = floor (times 32 middle +ℤ times 32 half) (pos 2)

abbrev pub from_short : Short → Box
from_short (Point x y) =
    record { x_low = times 16 x; x_high = times 16 x; y_low = times 16 y; y_high = times 16 y }
from_short (Middle x y half-width half-height) = record {
  x_low = low_end x half-width;
  x_high = high_end x half-width;
  y_low = low_end y half-height;
  y_high = high_end y half-height;
}
