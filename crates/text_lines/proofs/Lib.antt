-- Laws of the lines of a text, of their checks and of what they mean. Each file opens with what it holds.
pub mod Lines
pub mod Faults
pub mod Gathering
pub mod Accepted
pub mod Examples
mod Checking
