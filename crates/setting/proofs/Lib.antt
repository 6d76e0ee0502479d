-- Laws of a setting. Each file opens with what it holds.
pub mod Pieces
pub mod Depths
pub mod Scales
