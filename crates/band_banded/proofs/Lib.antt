-- Laws of banding. Each file opens with what it holds.
pub mod Cases
pub mod ByPieces
pub mod Answers
pub mod Computing
pub mod Examples
pub mod Sound
pub mod Faults
pub mod Given
pub mod Theorems
pub mod SplineAnswers
pub mod Station
pub mod Consequences
