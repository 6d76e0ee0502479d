-- Laws of the walk of a curve. Each file opens with what it holds.
pub mod Parts
pub mod Walks
pub mod Counts
pub mod Testing
