-- Laws of what is kept of the outline of a text. Each file opens with what it holds.
pub mod Filling
pub mod Kept
