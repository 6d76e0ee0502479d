-- Laws of boxes. Each file opens with what it holds.
pub mod Faults
pub mod Records
