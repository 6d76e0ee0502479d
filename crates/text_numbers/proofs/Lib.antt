-- Laws of places, runs of digits and numbers of a text. Each file opens with what it holds.
pub mod Places
pub mod Runs
pub mod Numbers
pub mod Examples
