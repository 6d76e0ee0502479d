-- Laws of the tightest band and of banding at a larger tolerance. Each file opens with what it holds.
pub mod Looser
pub mod Span
pub mod Answers
pub mod Theorems
pub mod Consequences
mod Examples
