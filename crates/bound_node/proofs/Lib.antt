-- Laws of a node: its boxes, and when they meet the tolerance. Each file opens with what it holds.
pub mod Examples
pub mod Sound
pub mod Narrow
