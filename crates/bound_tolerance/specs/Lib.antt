-- What is told of a node without its boxes.
pub mod Verdicts
