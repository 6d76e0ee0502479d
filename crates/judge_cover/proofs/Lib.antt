-- Laws of covers: the sizes of the numbers, the cuts of a range, and that the decision is exact. Each file opens with what it holds.
pub mod Sizes
pub mod Cuts
pub mod Deciding
