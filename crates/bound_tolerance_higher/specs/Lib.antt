-- What the test of a node of degree 4 or 5 tells.
pub mod Spreads
