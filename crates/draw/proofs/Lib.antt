-- Laws of the code of the path.
pub mod Spans
-- Laws of writing the vertices.
pub mod Writing
-- Laws of drawing. Each file opens with what it holds.
pub mod Faults
pub mod Answers
pub mod Theorems
