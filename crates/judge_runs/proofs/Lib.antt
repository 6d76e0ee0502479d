-- Laws of the boxes round runs of records. Each file opens with what it holds.
pub mod Boxes
pub mod Runs
pub mod Passed
pub mod Groups
