-- What a reader must believe of the enclosure of a coordinate: low and high at a break point, by any rows and by those
-- of a setting, and what it means that they enclose a curve. The rows stand in `bound_rows`.
pub mod Bounds
pub mod AtDepth
pub mod Enclosed
