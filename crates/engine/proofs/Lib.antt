-- What banding and judging in one call answers, and what follows from demand 3. Each file opens with what it holds.
pub mod Outcomes
pub mod Consequences
