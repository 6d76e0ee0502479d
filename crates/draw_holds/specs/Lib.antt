-- What a reader must believe of the points that a polygon holds: when it holds one, and the polygons that drawing gives
-- for the covers of a leaf list.
pub mod InPolygon
pub mod Polygons
