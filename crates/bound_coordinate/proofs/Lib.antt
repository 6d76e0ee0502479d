-- Laws of the code of one coordinate. Each file opens with what it holds.
pub mod Coordinates
pub mod Quotients
pub mod Raised
pub mod Chosen
pub mod Numerators
pub mod LowHigh
