-- Laws of the band of a text, of the lines that answer its points, and of the whole answer. Each file opens with what it holds.
pub mod Bands
pub mod Judging
pub mod Answers
pub mod TextDemand
pub mod Consequences
pub mod Examples
