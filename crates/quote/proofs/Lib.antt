-- Laws of a quote. Each file opens with what it holds.
pub mod Counts
pub mod Prices
pub mod Faults
