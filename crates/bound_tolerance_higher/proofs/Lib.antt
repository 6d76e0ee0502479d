-- Laws of the test of a node of degree 4 or 5. Each file opens with what it holds.
pub mod HigherLaws
pub mod Units
