-- What a reader must believe of the polygon round two boxes: its vertices, and the words in which the theorems speak of
-- a hull.
pub mod Polygon
pub mod Hull
