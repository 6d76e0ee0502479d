-- Laws of the answer's lines but for the leaves, and of the lines of a band. Each file opens with what it holds.
pub mod Answers
pub mod BandLines
pub mod Examples
