-- Laws of what exchanging a curve answers. Each file opens with what it holds.
pub mod Differences
pub mod Reaching
pub mod Theorems
mod Computing
pub mod Examples
