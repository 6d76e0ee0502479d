-- What a C caller may conclude from the numbers of an answer, and a law of them beside a list.
pub mod Consequences
mod InNumbers
