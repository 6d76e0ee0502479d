-- What a caller of the bench station finds in the lent list, from its contract alone and from what the station and lists have in common.
use mathlib.Core.Path.{◌∙◌}
use mir.Facts.{to_z-of_z}
use Rattle.band_banded.proofs.Station.{station_agrees}
use Rattle.promises.proofs.station.station_list.Goals as goal

pub returns : goal.returns
returns c =
    let left = rw (to_z-of_z c.ranges.tolerance) at c.contour_station_band.ensures in
    λ a b k done. left.records_after ∙ (station_agrees _ _ _ _).writes a b k done
