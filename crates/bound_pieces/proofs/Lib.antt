-- Laws of what the test of a node takes from the number of pieces: gaps, corners, spreads. Each file opens with what it holds.
pub mod Boxes
pub mod Apart
pub mod Corners
pub mod PiecesLaws
