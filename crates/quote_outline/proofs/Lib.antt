-- The quote over the records that banding wrote. Each file opens with what it holds.
pub mod CurveCounts
pub mod Theorems
mod Consequences
