-- Laws of judging, and of the quick look at a record. Each file opens with what it holds.
pub mod Passing
mod OneAnswer
mod FirstHeld
pub mod Judgements
pub mod Apart
pub mod Holders
pub mod Answers
