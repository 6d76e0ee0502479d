-- Laws of exchanging a curve. Each file opens with what it holds.
pub mod Moves
pub mod Renumbering
pub mod Alone
pub mod Fronts
pub mod Whole
pub mod Top
