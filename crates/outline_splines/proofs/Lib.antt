-- Laws of B-splines. Each file opens with what it holds.
pub mod Basis
pub mod Accepted
pub mod Examples
