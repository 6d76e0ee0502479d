-- What a reader must believe of demand 3: the claim itself, the points of a list, the point between two curves, a
-- B-spline and a point by the spline's basis, and the starred examples.
pub mod Demand3
pub mod Points
pub mod Meeting
pub mod Splines
pub mod Starred
