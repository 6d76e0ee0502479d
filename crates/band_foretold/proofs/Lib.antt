-- Laws of what foretelling answers. Each file opens with what it holds.
pub mod Answering
pub mod Theorems
mod Computing
pub mod Examples
pub mod Consequences
