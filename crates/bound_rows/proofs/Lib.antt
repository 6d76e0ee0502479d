-- Laws of the rows. Each file opens with what it holds.
pub mod Negated
pub mod Degrees
pub mod Antidifferences
pub mod Lines
pub mod Rows
pub mod Gaps
pub mod Places
pub mod Tabled
pub mod Claim
pub mod Rule
pub mod Consequences
