-- Laws of the pass that compares. Each file opens with what it holds.
pub mod ReachLaws
pub mod TryLaws
pub mod SeeLaws
pub mod CompareLaws
