-- What a reader must believe of curves: halving, nodes, points of a curve, second differences, and how large control
-- values get.
pub mod Halves
pub mod Nodes
pub mod Points
pub mod Differences
pub mod Bounds
pub mod Inside
