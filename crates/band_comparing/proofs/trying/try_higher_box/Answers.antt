-- The box at a break point of a curve of degree 4 or 5: its lows and highs are computed and compared.
use Rattle.band_records.specs.Inside.{box_from}
use Rattle.band_comparing.proofs.TryLaws.{box_given, sides_tried}
use Rattle.band_comparing.proofs.trying.try_higher_box.Goals as goal

pub returns : goal.returns
unfolding box_from
returns c =
    sides_tried c.low_at-x_low.ensures c.high_at-x_high.ensures c.low_at-y_low.ensures
    c.high_at-y_high.ensures _ _ _ c.ranges.square c.try_sides.ensures

pub try_sides-requires : goal.try_sides-requires
try_sides-requires c = let p = c.requires in box_given c.low_at-x_low.ensures
    c.high_at-x_high.ensures c.low_at-y_low.ensures c.high_at-y_high.ensures p.0 p.1
