-- Laws of the bounds. Each file opens with what it holds.
pub mod Examples
pub mod SecondDifferences
pub mod Negation
pub mod Enclosure
pub mod Consequences
pub mod Width
pub mod Reduced
