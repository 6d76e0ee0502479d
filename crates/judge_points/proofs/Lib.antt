-- Laws of judging a list of points. Each file opens with what it holds.
pub mod PointNumbers
pub mod Faults
pub mod Consequences
