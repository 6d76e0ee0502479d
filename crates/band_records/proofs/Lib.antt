-- Laws of leaf records. Each file opens with what it holds.
pub mod Writing
pub mod Lengths
pub mod Standing
pub mod Sound
