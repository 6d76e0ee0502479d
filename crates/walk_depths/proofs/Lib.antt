-- Laws of how deep a walk goes. Each file opens with what it holds.
pub mod Depths
pub mod Few
pub mod Thirds
pub mod Least
pub mod Widest
mod Examples
