-- Laws of the two passes. Each file opens with what it holds.
pub mod Wide
pub mod Counting
pub mod Reading
pub mod Among
-- Laws of the first pass.
pub mod CountPasses
-- Laws of the second pass.
pub mod Recording
pub mod Filling
