-- Numbers and lines are read exactly where their bytes stand, and texts with them. Each file opens with what it holds.
pub mod Decimals
pub mod Written
pub mod Read
pub mod Spelling
pub mod Lines
pub mod Legal
mod Keeps
pub mod Texts
pub mod Accepted
